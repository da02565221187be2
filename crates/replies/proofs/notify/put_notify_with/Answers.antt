-- `notify::put_notify_with` meets its contract: the message is written, and its checksum filled in.
use native.Mathlib.Omega.{arith}
use borrow.Author.Rules.{rules}
use Rattle.replies.specs.Messages.{notify_with}
use Rattle.replies.proofs.Lengths.{notify_with_length}
use Rattle.replies.proofs.Filled.{notify_field_free, checksum_written}
use Rattle.replies.proofs.notify.put_notify_with.Goals as goal

pub fill_checksum-requires : goal.fill_checksum-requires
fill_checksum-requires c =
    let a = c.args in
    let free = notify_field_free a.msg.now a.n a.session.now a.attribute.now a.reply.now _ c.put_notify_before_checksum-len.ensures.1 in
    (search rules, search rules, search rules, free)

pub returns : goal.returns
returns c =
    let a = c.args in
    let bytes = notify_with a.msg.now a.n a.session.now a.attribute.now in
    checksum_written bytes a.reply.now c.put_notify_before_checksum-len.ensures (notify_with_length c.requires) (omega arith) c.fill_checksum.ensures
