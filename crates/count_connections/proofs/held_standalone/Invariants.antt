-- `held_standalone` meets its contract: after `k` turns it has counted the first `k` customers' places.
use Prim.Native.Nat.{◌*◌, ◌≤◌}
use mathlib.Core.Path.{◌≡◌}
use mathlib.Core.Bool.{true}
use Rattle.lists.specs.Below.{below}
use Rattle.lists.specs.Count.{count_if}
use Rattle.table.specs.Lists.{standalone_at}
use Rattle.table.specs.Words.{table_of}
use Rattle.count_connections.proofs.held_standalone.Given as goal

abbrev pub invariant-loop-k : goal.invariant-loop-k
invariant-loop-k l = (l.n ≤ 4 * l.k) × (l.n ≡ count_if (λ x. true) (below (standalone_at (table_of l.t)) l.k))
