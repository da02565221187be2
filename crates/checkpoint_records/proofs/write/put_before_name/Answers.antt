-- `write::put_before_name` meets its contract: its stores, one behind the other, leave the bytes at the front.
use native.Mathlib.Omega.{arith}
use mathlib.Core.Path.{refl}
use Rattle.numbers.proofs.Buffer.{stored}
use Rattle.checkpoint_records.proofs.write.put_before_name.Goals as goal

pub returns : goal.returns
returns c =
    (refl, record { count = refl; is = rw (c.put8-2.ensures, c.marked.ensures, c.put32-2.ensures, c.put32.ensures, c.put16.ensures, c.put8.ensures) (stored _ _ (omega (arith, c.requires))) })
