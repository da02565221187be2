-- `connections::seek` meets its contract: a connection that is held is met before a free cell.
use Prim.Native.Nat.{◌-◌}
use Rattle.table.specs.Rules.{is_lsp}
use Rattle.spec_calls.specs.PathRules.{lsp_of}
use Rattle.spec_checkpoint.specs.Layout.{connection_record}
use Rattle.checkpoint_connections.proofs.Cells.{Passed}
use Rattle.checkpoint_connections.proofs.connections.seek.Given as goal

abbrev pub invariant-loop-j : goal.invariant-loop-j
invariant-loop-j l = Passed (λ v. is_lsp (lsp_of l.x) (connection_record l.c.bytes.now (v - 1))) l.cells l.place l.j
