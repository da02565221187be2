-- `write::put_head` meets its contract: its two stores leave the head at the front.
use mathlib.Core.Path.{refl}
use Rattle.numbers.proofs.Buffer.{stored}
use Rattle.checkpoint_records.proofs.write.put_head.Goals as goal

pub returns : goal.returns
returns c =
    record { count = refl; is = rw (c.put16-2.ensures, c.put16.ensures) (stored _ _ c.requires.1) }
