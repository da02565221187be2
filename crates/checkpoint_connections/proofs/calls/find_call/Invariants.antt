-- `calls::find_call` meets its contract: a call that is open is met before a free cell.
use Prim.Native.Nat.{◌-◌}
use Rattle.lists.specs.Count.{has}
use Rattle.table.specs.Lists.{entries}
use Rattle.table.specs.Words.{table_of}
use Rattle.spec_calls.specs.PathRules.{held_by}
use Rattle.checkpoint_connections.specs.Cells.{is_call_in}
use Rattle.checkpoint_connections.proofs.Cells.{Passed}
use Rattle.checkpoint_connections.proofs.calls.find_call.Given as goal

abbrev pub invariant-loop-j : goal.invariant-loop-j
invariant-loop-j l = Passed (λ v. has (is_call_in (held_by l.x) (v - 1)) (entries (table_of l.t))) l.cells l.place l.j
