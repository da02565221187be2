-- `filling::with_connections` meets its contract: after `k` turns the table is the one with the first `k` records, and
-- what is in it stands in cells.
use mathlib.Core.Path.{◌≡◌}
use Rattle.table.specs.Words.{table_of}
use Rattle.spec_checkpoint.specs.Salvage.{with_connections}
use Rattle.checkpoint_connections.specs.Cells.{TableInCells}
use Rattle.checkpoint_read.proofs.filling.with_connections.Given as goal

abbrev pub invariant-loop-k : goal.invariant-loop-k
invariant-loop-k l = (table_of l.t ≡ with_connections (table_of l.initial.t) l.c.bytes.now l.k) × TableInCells l.f l.c.bytes.now l.kept l.held (table_of l.t)
