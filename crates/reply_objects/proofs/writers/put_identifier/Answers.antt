-- `writers::put_identifier` meets its contract: its stores, one behind the other, leave the object's bytes at the
-- front.
use mathlib.Core.Path.{refl}
use Rattle.numbers.proofs.Buffer.{stored}
use Rattle.reply_objects.proofs.writers.put_identifier.Goals as goal

pub returns : goal.returns
returns c =
    (refl, rw (c.put32.ensures, c.put24.ensures, c.put8-3.ensures, c.put8-2.ensures, c.put8.ensures, c.put16.ensures) (stored _ _ c.requires))
