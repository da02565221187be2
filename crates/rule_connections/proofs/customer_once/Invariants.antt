-- `customer_once` meets its contract: after `i` turns the connections in the first `i` slots stand in the rows.
use Prim.Native.Nat.{◌*◌, ◌≤◌}
use mathlib.Core.Path.{◌≡◌}
use Rattle.lists.specs.Below.{below}
use Rattle.table.specs.Words.{table_of}
use Rattle.rule_connections.specs.Own.{own_at}
use Rattle.rule_connections.specs.Rows.{lsps_of}
use Rattle.rule_connections.specs.Columns.{rows_in}
use Rattle.rule_connections.proofs.customer_once.Given as goal

abbrev pub invariant-loop-i : goal.invariant-loop-i
invariant-loop-i l =
    (rows_in l.g.sender l.columns ≡ lsps_of (below (own_at (table_of l.t) l.g.sender) l.i)) × (l.columns.count ≤ 4 * l.i)
