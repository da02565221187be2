use mathlib.Core.Bool.{true}
use native.Mathlib.Omega.{arith}
use mathlib.Core.Path.{◌≡◌, refl, sym}
use Rattle.lists.proofs.Below.{count_none, count_turns}
use Rattle.count_connections.proofs.held_standalone.Goals as goal

pub loop-k-init : goal.loop-k-init
loop-k-init c = (omega arith, sym (count_none _ (λ x. true)))

pub loop-k-preserved : goal.loop-k-preserved
loop-k-preserved c =
    let e = c.taken_in_record-n.ensures in
    (omega (arith, e.1), count_turns _ (λ x. true) _ _ _ _ _ refl c.loop-k.invariant.1 (rw (← c.listed-listed.ensures) e.0))

pub returns : goal.returns
returns c =
    let e : c.loop-k.k ≡ 8 = omega arith in
    (rw e at c.loop-k.invariant.1, omega arith)
