use native.Mathlib.Omega.{arith}
use mathlib.Core.Path.{◌≡◌, sym, ◌∙◌}
use Rattle.table.specs.Total.{slots}
use Rattle.table.specs.Words.{table_of}
use Rattle.checkpoint_write.specs.Bytes.{calls_bytes}
use Rattle.checkpoint_write.proofs.Grown.{none, room, within_turn, turn}
use Rattle.checkpoint_write.proofs.Parts.{used_writable}
use Rattle.checkpoint_write.proofs.slots.put_calls.Goals as goal

pub loop-i-init : goal.loop-i-init
loop-i-init c = none _ _

pub put_slot-at-requires : goal.put_slot-at-requires
unfolding calls_bytes
put_slot-at-requires c =
    let i = c.loop-i.i in
    let used = c.is_used.ensures in
    (omega arith, λ h. used_writable (table_of c.args.t.now) c.requires.0 i (omega arith) (sym used ∙ h), rw used (room _ _ _ slots (omega arith) c.requires.1 c.loop-i.invariant))

pub overflow_add-at : goal.overflow_add-at
unfolding calls_bytes
overflow_add-at c =
    let used = c.is_used.ensures in
    let w = rw used at c.put_slot-at.ensures in
    omega (arith, within_turn _ _ _ slots (omega arith) c.requires.1 c.loop-i.invariant _ w.count)

pub loop-i-preserved : goal.loop-i-preserved
unfolding calls_bytes
loop-i-preserved c =
    let used = c.is_used.ensures in
    turn _ _ _ slots (omega arith) c.requires.1 c.loop-i.invariant (rw used at c.put_slot-at.ensures)

pub returns : goal.returns
unfolding calls_bytes
returns c =
    let e : c.loop-i.i ≡ slots = omega arith in
    rw e at c.loop-i.invariant.put
