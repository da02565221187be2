-- `calls::free_cell` meets its contract: no more cells are passed than are filled.
use mathlib.Core.Bool.{false}
use Rattle.checkpoint_connections.proofs.Cells.{Passed}
use Rattle.checkpoint_connections.proofs.calls.free_cell.Given as goal

abbrev pub invariant-loop-j : goal.invariant-loop-j
invariant-loop-j l = Passed (λ v. false) l.cells l.place l.j
