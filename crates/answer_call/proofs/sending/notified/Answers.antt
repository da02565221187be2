-- `notified`: the Notify is sent, and then the identifier is taken.
use mathlib.Core.Path.{refl}
use Rattle.answer_call.proofs.sending.notified.Goals as goal

pub returns : goal.returns
returns c =
    let sent = rw (c.address-node.ensures, c.next.ensures, c.epoch.ensures) at c.send_notify-length.ensures in
    record { answer = refl; length = sent.0; table = c.take_identifier.ensures; reply = sent.1 }
