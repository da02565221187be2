use native.Mathlib.Omega.{arith}
use Rattle.table.specs.Lists.{held_place}
use Rattle.table_words.specs.Fours.{four_at_word}
use Rattle.checkpoint_write.proofs.Grown.{none}
use Rattle.checkpoint_write.proofs.Parts.{held_list_if, list_if_is, put_nothing}
use Rattle.checkpoint_write.proofs.Rows.{row_room, row_within, row_turn, row_complete}
use Rattle.checkpoint_write.proofs.connections.put_four.Goals as goal

pub returns-then-not-used : goal.returns-then-not-used
returns-then-not-used c = rw (held_list_if _ _) (put_nothing _ _ _ (c.if-not-used.true))

pub loop-j-init : goal.loop-j-init
loop-j-init c = none _ _

pub put_place-at-requires : goal.put_place-at-requires
put_place-at-requires c =
    let used = c.if-not-used.false in
    (omega arith, c.requires.0 used, row_room (held_place (four_at_word c.args.t.now c.args.f)) _ _ 4 (omega arith) (rw (list_if_is _ _ used) at c.requires.1) c.loop-j.invariant)

pub overflow_add-at : goal.overflow_add-at
overflow_add-at c =
    omega (arith, row_within (held_place (four_at_word c.args.t.now c.args.f)) _ _ 4 (omega arith) (rw (list_if_is _ _ (c.if-not-used.false)) at c.requires.1) c.loop-j.invariant c.put_place-at.ensures)

pub loop-j-preserved : goal.loop-j-preserved
loop-j-preserved c =
    row_turn (held_place (four_at_word c.args.t.now c.args.f)) _ _ 4 (omega arith) (rw (list_if_is _ _ (c.if-not-used.false)) at c.requires.1) c.loop-j.invariant c.put_place-at.ensures

pub returns : goal.returns
returns c =
    let a = c.args in
    rw (list_if_is _ _ (c.if-not-used.false)) (row_complete (held_place (four_at_word a.t.now a.f)) _ 4 (omega arith) c.loop-j.invariant)
