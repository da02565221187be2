-- `made::put_session_with` meets its contract: the SESSION is copied, and the Call ID stored into the copy.
use mathlib.Core.Path.{◌∙◌}
use Rattle.objects.specs.Part.{part_of}
use Rattle.reply_objects.proofs.Lengths.{part_length}
use Rattle.reply_objects.proofs.MadeIds.{call_id_stored}
use Rattle.reply_objects.proofs.made.put_session_with.Goals as goal

pub returns : goal.returns
returns c =
    let a = c.args in
    let received = part_of a.msg.now a.p in
    let size = part_length a.msg.now a.p c.requires.0 ∙ c.requires.1 in
    (c.put_received-n.ensures.0 ∙ c.requires.1, rw (c.put16.ensures, c.put_received-n.ensures.1) (call_id_stored received a.out.now a.call size))
