-- `calls::note_calls` meets its contract: after i turns the calls of the first i slots are noted.
use Rattle.lists.specs.Below.{below}
use Rattle.table.specs.Lists.{open_at}
use Rattle.table.specs.Words.{table_of}
use Rattle.checkpoint_connections.specs.Cells.{CallsInCells}
use Rattle.checkpoint_connections.proofs.calls.note_calls.Given as goal

abbrev pub invariant-loop-i : goal.invariant-loop-i
invariant-loop-i l = CallsInCells l.f (below (open_at (table_of l.t)) l.i) l.cells l.i
