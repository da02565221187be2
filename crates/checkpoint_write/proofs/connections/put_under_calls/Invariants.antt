-- `connections::put_under_calls` meets its contract: each turn writes one four behind those before it.
use Rattle.table.specs.Lists.{held_at}
use Rattle.table.specs.Words.{table_of}
use Rattle.checkpoint_write.proofs.Rows.{RowReached}
use Rattle.checkpoint_write.proofs.connections.put_under_calls.Given as goal

abbrev pub invariant-loop-i : goal.invariant-loop-i
invariant-loop-i l = RowReached (held_at (table_of l.t)) l.initial.out l.i l.at l.out
