-- `tally` meets its contract: after `k` turns the first `k` counts have the call.
use Prim.Native.Nat.{◌+◌}
use mathlib.Core.Path.{◌≡◌}
use lib.Dec.{eqb}
use lib.ListN.{get_or}
use Rattle.lists.specs.Count.{bit}
use Rattle.lists.proofs.Filled.{filled}
use Rattle.rule_limits.proofs.tally.Given as goal

abbrev pub invariant-loop-k : goal.invariant-loop-k
invariant-loop-k l =
    l.counts ≡ filled (λ j. get_or l.initial.counts j 0 + bit (eqb (get_or l.addresses j 0) l.sender)) (λ j. get_or l.initial.counts j 0) 8 l.k
