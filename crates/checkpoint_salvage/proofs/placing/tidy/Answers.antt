-- `placing::tidy` meets its contract: each number is the callee's, and the bytes are those of the name.
use native.Mathlib.Omega.{arith}
use mathlib.Core.Path.{ap}
use mathlib.Core.Bool.{not}
use borrow.Author.Tests.{ltb-true, leb-true}
use Rattle.lists.proofs.Tests.{both}
use Rattle.checkpoint_salvage.proofs.Records.{untidy, tidy_is}
use Rattle.checkpoint_salvage.proofs.placing.tidy.Goals as goal

pub returns-then-not-sized : goal.returns-then-not-sized
returns-then-not-sized c =
    let r = c.args.r in
    untidy r.bytes.now r.number _ c.size-size.ensures.0 (ap not c.if-not-sized.true)

pub returns : goal.returns
returns c =
    let r = c.args.r in
    let sized = both _ _ (c.if-not-sized.false) in
    rw (c.id.ensures, c.zeros-clear.ensures, c.start-at.ensures)
    (tidy_is r.bytes.now r.number _ c.size-size.ensures.0 _ c.request_tidy.ensures (ltb-true _ _ sized.0) (leb-true _ _ sized.1) (omega (arith, c.id.ensures, c.id.type_inv)))
