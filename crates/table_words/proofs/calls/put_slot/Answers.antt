-- `calls::put_slot` meets its contract.
use native.Mathlib.Omega.{arith}
use Rattle.table_words.proofs.Copied.{slot_stored}
use Rattle.table_words.proofs.calls.put_slot.Goals as goal

pub returns : goal.returns
returns c =
    let a = c.args in
    rw c.copy_from_slice.ensures.after (slot_stored a.t.now a.x.now a.i _ (omega arith) c.requires (omega arith) (omega arith))
