-- `made::put_attribute_front` meets its contract: its stores, one behind the other, leave the eight bytes at the front.
use mathlib.Core.Path.{refl}
use Rattle.numbers.proofs.Buffer.{stored}
use Rattle.reply_objects.proofs.MadeIds.{priorities}
use Rattle.reply_objects.proofs.made.put_attribute_front.Goals as goal

pub returns : goal.returns
returns c =
    let a = c.args in
    (refl, rw (c.put8-6.ensures, c.put8-5.ensures, c.put8-4.ensures, c.put8-3.ensures, c.put8-2.ensures, c.put8.ensures, c.put16.ensures, priorities a.msg.now a.p c.requires.0 c.requires.1) (stored _ _ c.requires.3))
