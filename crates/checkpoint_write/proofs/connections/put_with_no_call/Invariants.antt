-- `connections::put_with_no_call` meets its contract: each turn writes one four behind those before it.
use Rattle.table.specs.Lists.{standalone_at}
use Rattle.table.specs.Words.{table_of}
use Rattle.checkpoint_write.proofs.Rows.{RowReached}
use Rattle.checkpoint_write.proofs.connections.put_with_no_call.Given as goal

abbrev pub invariant-loop-k : goal.invariant-loop-k
invariant-loop-k l = RowReached (standalone_at (table_of l.t)) l.initial.out l.k l.at l.out
