-- `notify::put_notify_front` meets its contract: its four writers follow one another.
use native.Mathlib.Omega.{arith}
use mathlib.Core.Path.{refl}
use Rattle.objects.specs.Classes.{message_id, message_id_ack}
use Rattle.reply_objects.specs.Objects.{identifier_bytes, error_spec_bytes}
use Rattle.reply_objects.specs.Header.{header_bytes}
use Rattle.reply_objects.proofs.Written.{begun, more}
use Rattle.replies.proofs.notify.put_notify_front.Goals as goal

pub returns : goal.returns
returns c =
    let n = c.args.n in
    let w1 = begun (header_bytes 21 c.args.len) refl c.put_header-a.ensures in
    let w2 = more (identifier_bytes message_id_ack 0 n.acknowledged) w1 refl (omega arith) c.put_message_id_ack.ensures in
    let w3 = more (identifier_bytes message_id 1 n.own) w2 refl (omega arith) c.put_message_id.ensures in
    let w4 = more (error_spec_bytes n.error) w3 refl (omega arith) c.put_error_spec.ensures in
    (w4.counted, w4.is)
