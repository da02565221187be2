-- `share_sums` meets its contract: after `k` turns it has asked and added up the first `k` customers.
use Prim.Native.Nat.{max, ◌≤◌, ◌*◌}
use mathlib.Core.Path.{◌≡◌}
use Rattle.lists.specs.Count.{has, sum_of}
use Rattle.lists.specs.Below.{below}
use Rattle.table.specs.Total.{slots}
use Rattle.table.specs.Lists.{Terms, listed_at, entries}
use Rattle.table.specs.Share.{calls_of}
use Rattle.table.specs.Rules.{over_limit}
use Rattle.table.specs.Words.{table_of}
use Rattle.rule_limits.proofs.share_sums.Given as goal

abbrev pub invariant-loop-k : goal.invariant-loop-k
invariant-loop-k l =
    (l.sum ≤ 4294967295 * l.k)
    × (l.known ≤ slots * l.k)
    × (l.over ≡ has (over_limit (entries (table_of l.t))) (below (listed_at (table_of l.t)) l.k))
    × (l.sum ≡ sum_of (λ c. max (calls_of (entries (table_of l.t)) c.address) c.guarantee) (below (listed_at (table_of l.t)) l.k))
    × (l.known ≡ sum_of (λ (c : Terms). calls_of (entries (table_of l.t)) c.address) (below (listed_at (table_of l.t)) l.k))
