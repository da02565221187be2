-- `write::put_connection` meets its contract: its stores, one behind the other, leave the record at the front.
use mathlib.Core.Path.{refl}
use Rattle.numbers.proofs.Buffer.{stored}
use Rattle.checkpoint_records.proofs.write.put_connection.Goals as goal

pub returns : goal.returns
returns c =
    record { count = refl; is = rw (c.put16-3.ensures, c.put32-3.ensures, c.put32-2.ensures, c.put16-2.ensures, c.put16.ensures, c.put32.ensures) (stored _ _ c.requires) }
