use native.Mathlib.Omega.{arith}
use mathlib.Core.Path.{sym, ◌∙◌}
use Rattle.table.specs.Total.{slots}
use Rattle.table.specs.Lists.{call_at, call_four, held_at}
use Rattle.table.specs.Words.{table_of}
use Rattle.checkpoint_write.proofs.Grown.{none}
use Rattle.checkpoint_write.proofs.Parts.{four_bytes, alike_fits, call_fits_lem}
use Rattle.checkpoint_write.proofs.Rows.{row_room, row_within, row_turn, row_complete}
use Rattle.checkpoint_write.proofs.connections.put_under_calls.Goals as goal

pub loop-i-init : goal.loop-i-init
loop-i-init c = none _ _

pub put_four-at-requires : goal.put_four-at-requires
put_four-at-requires c =
    let t = table_of c.args.t.now in
    let i = c.loop-i.i in
    let used = c.is_used.ensures in
    let a = c.call_four.ensures in (
      λ h. alike_fits _ (call_four (call_at t i)) a (call_fits_lem t c.requires.0 i (omega arith) (sym used ∙ h)),
      rw (four_bytes _ _ _ (call_four (call_at t i)) used a) (row_room (held_at t) _ _ slots (omega arith) c.requires.1 c.loop-i.invariant),
    )

pub overflow_add-at : goal.overflow_add-at
overflow_add-at c =
    let t = table_of c.args.t.now in
    let i = c.loop-i.i in
    let used = c.is_used.ensures in
    let w = rw (four_bytes _ _ _ (call_four (call_at t i)) used c.call_four.ensures) at c.put_four-at.ensures in
    omega (arith, row_within (held_at t) _ _ slots (omega arith) c.requires.1 c.loop-i.invariant w)

pub loop-i-preserved : goal.loop-i-preserved
loop-i-preserved c =
    let t = table_of c.args.t.now in
    let i = c.loop-i.i in
    let used = c.is_used.ensures in
    let w = rw (four_bytes _ _ _ (call_four (call_at t i)) used c.call_four.ensures) at c.put_four-at.ensures in
    row_turn (held_at t) _ _ slots (omega arith) c.requires.1 c.loop-i.invariant w

pub returns : goal.returns
returns c = row_complete (held_at (table_of c.args.t.now)) _ slots (omega arith) c.loop-i.invariant
