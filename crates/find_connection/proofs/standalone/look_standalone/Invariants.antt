-- `standalone::look_standalone` meets its contract: after `k` turns it knows of the first `k` customers.
use Prim.Native.Nat.{◌≤◌, ◌*◌}
use Rattle.table.specs.Lists.{standalone_at}
use Rattle.table.specs.Words.{table_of}
use Rattle.spec_calls.specs.PathRules.{held_by}
use Rattle.find_connection.proofs.Rows.{Looked}
use Rattle.find_connection.proofs.standalone.look_standalone.Given as goal

abbrev pub invariant-loop-k : goal.invariant-loop-k
invariant-loop-k l =
    (l.four ≤ 4 * l.k) × Looked (standalone_at (table_of l.t)) (held_by l.x) l.k l.other l.held l.four
