-- `marked_below` meets its contract: no slot of the words passed over is marked, and the first word with a mark has the last.
use Prim.Native.Nat.{◌*◌}
use Rattle.table.specs.Words.{table_of}
use Rattle.table.proofs.Slots.{ClearFrom}
use Rattle.occupancy.proofs.marked_below.Given as goal

abbrev pub invariant-loop-k : goal.invariant-loop-k
invariant-loop-k l = ClearFrom (table_of l.t).occupied (64 * l.k)
