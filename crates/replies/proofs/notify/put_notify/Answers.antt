-- `notify::put_notify` meets its contract: the parts that it hands on are SESSION and SESSION_ATTRIBUTE as received.
use Rattle.replies.specs.Messages.{notify_before_checksum, notify_bytes}
use Rattle.reply_objects.proofs.Lengths.{slice_is}
use Rattle.replies.proofs.Filled.{lent}
use Rattle.replies.proofs.notify.put_notify.Goals as goal

pub returns : goal.returns
unfolding notify_bytes notify_before_checksum
returns c =
    let a = c.args in
    let msg = a.msg.now in
    lent msg a.n a.reply.now (slice_is msg a.n.session) (slice_is msg a.n.attribute) c.put_notify_with.ensures
