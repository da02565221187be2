-- `lowest_free` meets its contract: every slot of the words passed over is used, and the first word with a free one has it.
use Prim.Native.Nat.{◌*◌}
use Rattle.table.specs.Words.{table_of}
use Rattle.table.proofs.Slots.{FullBelow}
use Rattle.occupancy.proofs.lowest_free.Given as goal

abbrev pub invariant-loop-k : goal.invariant-loop-k
invariant-loop-k l = FullBelow (table_of l.t).occupied (64 * l.k)
