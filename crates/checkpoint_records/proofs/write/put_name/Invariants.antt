-- `write::put_name` meets its contract: after `k` turns the name's first `k` bytes are at the front.
use mathlib.Core.Path.{◌≡◌}
use lib.ListN.{length}
use lib.Seq.{paste}
use Rattle.table.specs.Lists.{call_at}
use Rattle.table.specs.Words.{table_of}
use Rattle.checkpoint_records.proofs.write.put_name.Given as goal

abbrev pub invariant-loop-k : goal.invariant-loop-k
invariant-loop-k l = (length l.out ≡ length l.initial.out) × (l.out ≡ paste l.initial.out 0 (call_at (table_of l.t) l.i).name l.k)
