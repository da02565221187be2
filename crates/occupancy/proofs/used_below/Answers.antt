-- `used_below` meets its contract: no slot of the table behind the last mark is used.
use native.Mathlib.Omega.{arith}
use Rattle.table.specs.Words.{table_of}
use Rattle.table.proofs.Slots.{clear_behind}
use Rattle.occupancy.proofs.used_below.Goals as goal

pub returns : goal.returns
returns c =
    (omega arith, λ i l h. clear_behind (table_of c.args.t.now).occupied i (omega (arith, c.marked_below.ensures)) (omega arith))
