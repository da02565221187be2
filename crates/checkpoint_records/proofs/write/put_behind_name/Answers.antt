-- `write::put_behind_name` meets its contract: its stores, one behind the other, leave the bytes at the front.
use mathlib.Core.Path.{refl}
use Rattle.numbers.proofs.Buffer.{stored}
use Rattle.checkpoint_records.proofs.write.put_behind_name.Goals as goal

pub returns : goal.returns
returns c =
    (refl, record { count = refl; is = rw (c.put32-2.ensures, c.put24.ensures, c.put32.ensures) (stored _ _ c.requires) })
