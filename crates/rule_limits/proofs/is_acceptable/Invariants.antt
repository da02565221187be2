-- `is_acceptable` meets its contract: each turn asks for a bad guarantee or limit and for an address that stands before,
-- and adds the guarantee up.
use Prim.Native.Nat.{◌≤◌, ◌*◌}
use mathlib.Core.Path.{◌≡◌}
use Rattle.lists.specs.Count.{has, sum_of}
use Rattle.lists.specs.Below.{below}
use Rattle.lists.specs.Pairs.{pairs_below}
use Rattle.table.specs.Lists.{Terms, listed_at}
use Rattle.table.specs.Rules.{bad_share}
use Rattle.table.specs.Words.{table_of}
use Rattle.rule_limits.specs.Apart.{other_address}
use Rattle.rule_limits.proofs.is_acceptable.Given as goal

abbrev pub invariant-loop-k : goal.invariant-loop-k
invariant-loop-k l =
    (l.sum ≤ 4294967295 * l.k)
    × (l.bad ≡ has (bad_share l.total) (below (listed_at (table_of l.t)) l.k))
    × (l.apart ≡ pairs_below (other_address (table_of l.t)) l.k)
    × (l.sum ≡ sum_of (λ (c : Terms). c.guarantee) (below (listed_at (table_of l.t)) l.k))
