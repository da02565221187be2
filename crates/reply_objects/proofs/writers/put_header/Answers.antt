-- `writers::put_header` meets its contract: its stores, one behind the other, leave the header's bytes at the front.
use mathlib.Core.Path.{refl}
use Rattle.numbers.proofs.Buffer.{stored}
use Rattle.reply_objects.proofs.writers.put_header.Goals as goal

pub returns : goal.returns
returns c =
    (refl, rw (c.put16-2.ensures, c.put8-4.ensures, c.put8-3.ensures, c.put16.ensures, c.put8-2.ensures, c.put8.ensures) (stored _ _ c.requires))
