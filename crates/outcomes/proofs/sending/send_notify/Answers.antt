-- `send_notify`: what `put_notify` and `put_notify_made` write.
use Rattle.spec_calls.proofs.Sent.{notify_fits}
use Rattle.outcomes.proofs.sending.send_notify.Goals as goal

pub put_notify-requires : goal.put_notify-requires
put_notify-requires c =
    let a = c.args in
    rw c.notify_for-n.ensures (notify_fits a.r.msg.now a.reply.now a.node a.own a.r.q a.status a.a a.r.inside c.requires)

pub put_notify_made-requires : goal.put_notify_made-requires
put_notify_made-requires c =
    let a = c.args in
    (rw c.notify_for-n.ensures (notify_fits a.r.msg.now a.reply.now a.node a.own a.r.q a.status a.a a.r.inside c.requires), c.in-Some.m.fits)

pub returns-in-None : goal.returns-in-None
returns-in-None c = rw c.in-None.is (rw c.notify_for-n.ensures at c.put_notify.ensures)

pub returns-in-Some : goal.returns-in-Some
returns-in-Some c = rw c.in-Some.is (rw c.notify_for-n.ensures at c.put_notify_made.ensures)
