-- `filling::with_calls` meets its contract: after `i` turns the table is the one of the first `i` records.
use mathlib.Core.Path.{◌≡◌}
use Rattle.table.specs.Words.{table_of}
use Rattle.spec_checkpoint.specs.Salvage.{with_calls}
use Rattle.checkpoint_read.proofs.filling.with_calls.Given as goal

abbrev pub invariant-loop-i : goal.invariant-loop-i
invariant-loop-i l = table_of l.t ≡ with_calls (table_of l.initial.t) l.c.bytes.now l.i
