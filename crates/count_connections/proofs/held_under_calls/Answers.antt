use mathlib.Core.Bool.{true}
use native.Mathlib.Omega.{arith}
use mathlib.Core.Path.{◌≡◌, refl, sym}
use Rattle.lists.proofs.Below.{count_none, count_turns}
use Rattle.table.specs.Total.{slots}
use Rattle.count_connections.proofs.held_under_calls.Goals as goal

pub loop-i-init : goal.loop-i-init
loop-i-init c = (omega arith, sym (count_none _ (λ x. true)))

pub loop-i-preserved : goal.loop-i-preserved
loop-i-preserved c =
    let e = c.taken_in_slot-n.ensures in
    (omega (arith, e.1), count_turns _ (λ x. true) _ _ _ _ _ refl c.loop-i.invariant.1 e.0)

pub returns : goal.returns
returns c =
    let e : c.loop-i.i ≡ slots = omega arith in
    (rw e at c.loop-i.invariant.1, omega arith)
