-- `placing::record_request` meets its contract: each number is the callee's.
use Prim.Native.Nat.{◌+◌, ◌*◌}
use native.Mathlib.Omega.{arith}
use lib.ListN.{drop}
use lib.Seq.{take-take}
use Rattle.checkpoint_salvage.proofs.placing.record_request.Goals as goal

pub returns : goal.returns
returns c =
    let r = c.args.r in
    let few = rw (← c.size.ensures.0) at c.requires in (
      rw (c.id.ensures, c.sender.ensures, c.endpoint.ensures, c.size.ensures.0, c.start.ensures, take-take _ 32 (drop (4 + 55 * r.number + 12) r.bytes.now) c.requires),
      omega arith,
      few,
    )
