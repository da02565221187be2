use Prim.Native.Nat.{◌+◌, ◌*◌}
use native.Mathlib.Omega.{arith}
use Rattle.checkpoint_records.proofs.Behind.{name_taken}
use Rattle.checkpoint_records.proofs.call.CallRecord.name.Goals as goal

pub returns : goal.returns
returns c =
    rw (c.start-at.ensures)
    (rw c.size.ensures.0 at (name_taken c.args.self.bytes.now (4 + 55 * c.args.self.number + 12) c.size.result (4 + 55 * c.args.self.number + 12 + c.min.result) (omega arith) (omega arith)))
