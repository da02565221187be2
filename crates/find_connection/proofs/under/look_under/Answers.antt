use native.Mathlib.Omega.{arith}
use mathlib.Core.Path.{◌≡◌}
use Rattle.find_connection.proofs.Looked.{look_none, look_turn, look_all}
use Rattle.find_connection.proofs.under.look_under.Goals as goal

pub loop-i-init : goal.loop-i-init
loop-i-init c = (omega arith, look_none _ _)

pub looked-look-requires : goal.looked-look-requires
looked-look-requires c = (omega (arith, c.used_below-i-end.ensures.0), c.loop-i.invariant.0)

pub loop-i-preserved : goal.loop-i-preserved
loop-i-preserved c =
    let r = c.looked-look.ensures in
    (omega (arith, r.1, c.loop-i.invariant.0), rw r.0 (look_turn _ _ _ _ _ c.is_used.ensures c.loop-i.invariant.1))

pub returns : goal.returns
returns c =
    let n = c.used_below-i-end in
    let e : c.loop-i.i ≡ n.result = omega arith in
    look_all _ _ _ _ n.ensures.0 n.ensures.1 (rw e at c.loop-i.invariant.1)
