-- `writers::put_received` meets its contract: the slice that it hands on is the part.
use Rattle.std.proofs.Common.{◌∙◌, ap, length}
use Rattle.numbers.specs.Buffer.{at_front}
use Rattle.reply_objects.proofs.Lengths.{part_length, slice_is}
use Rattle.reply_objects.proofs.writers.put_received.Goals as goal

pub returns : goal.returns
returns c =
    let a = c.args in
    let part = slice_is a.msg.now a.p in
    (c.put_bytes.ensures.0 ∙ ap length part ∙ part_length a.msg.now a.p c.requires.0, c.put_bytes.ensures.1 ∙ ap (λ s. at_front s a.out.now) part)
