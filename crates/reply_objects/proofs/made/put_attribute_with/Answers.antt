-- `made::put_attribute_with` meets its contract: the eight bytes before the name, the name and the padding follow one
-- another.
use Prim.Native.Nat.{◌-◌}
use native.Mathlib.Omega.{arith}
use mathlib.Core.Path.{refl, ap, ◌∙◌}
use lib.ListN.{length, take, replicate, length-replicate}
use Rattle.objects.specs.Forms.{rounded_up_to4}
use Rattle.objects.specs.Part.{part_of}
use Rattle.reply_objects.specs.Objects.{attribute_front}
use Rattle.reply_objects.proofs.Lengths.{part_length, attribute_front_length, attribute_with_length}
use Rattle.reply_objects.proofs.Written.{begun, more}
use Rattle.reply_objects.proofs.MadeIds.{zeros_taken}
use Rattle.reply_objects.proofs.made.put_attribute_with.Goals as goal

pub returns : goal.returns
returns c =
    let a = c.args in
    let received = part_of a.msg.now a.p in
    let name = a.name.now in
    let size = length name in
    let padding = rounded_up_to4 size - size in
    let n = part_length a.msg.now a.p c.requires.0 in
    let w1 = begun (attribute_front received size) (attribute_front_length received size (omega arith)) c.put_attribute_front-a.ensures in
    let w2 = more name w1 refl (omega arith) c.put_bytes.ensures in
    let zeros = zeros_taken padding 3 (omega arith) in
    let end = ap length zeros ∙ length-replicate padding 0 in
    let w3 = more (take padding (replicate 3 0)) w2 refl (omega (arith, end)) c.put_bytes-2.ensures in
    (omega (arith, w3.counted, end), omega (arith, w3.counted, end, attribute_with_length received name (omega arith)), rw (← zeros) w3.is)
