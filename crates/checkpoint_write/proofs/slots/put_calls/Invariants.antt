-- `slots::put_calls` meets its contract: each turn writes one slot behind those before it.
use Rattle.table.specs.Lists.{call_at}
use Rattle.table.specs.Word.{is_used}
use Rattle.table.specs.Words.{table_of}
use Rattle.checkpoint_write.specs.Bytes.{slot_bytes}
use Rattle.checkpoint_write.proofs.Grown.{Reached}
use Rattle.checkpoint_write.proofs.slots.put_calls.Given as goal

abbrev pub invariant-loop-i : goal.invariant-loop-i
invariant-loop-i l = Reached (λ i. slot_bytes (is_used (table_of l.t).occupied i) i (call_at (table_of l.t) i)) l.initial.out l.i l.at l.out
