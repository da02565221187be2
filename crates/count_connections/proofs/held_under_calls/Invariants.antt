-- `held_under_calls` meets its contract: after `i` turns it has counted the first `i` slots.
use Prim.Native.Nat.{◌*◌, ◌≤◌}
use mathlib.Core.Path.{◌≡◌}
use mathlib.Core.Bool.{true}
use Rattle.lists.specs.Below.{below}
use Rattle.lists.specs.Count.{count_if}
use Rattle.table.specs.Lists.{held_at}
use Rattle.table.specs.Words.{table_of}
use Rattle.count_connections.proofs.held_under_calls.Given as goal

abbrev pub invariant-loop-i : goal.invariant-loop-i
invariant-loop-i l = (l.n ≤ 4 * l.i) × (l.n ≡ count_if (λ x. true) (below (held_at (table_of l.t)) l.i))
