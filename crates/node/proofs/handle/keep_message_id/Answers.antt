-- `keep_message_id`: the sender's record, which was looked up, has the Notify's.
use Rattle.spec_changes.specs.Last.{last_kept}
use Rattle.node.proofs.handle.keep_message_id.Goals as goal

pub returns-in-Open : goal.returns-in-Open
unfolding last_kept
returns-in-Open c =
    let e = c.in-Open.is in
    let p = rw e at c.requires in
    rw (e, ← p.1) c.put_last.ensures

pub returns-in-Close : goal.returns-in-Close
unfolding last_kept
returns-in-Close c =
    let e = c.in-Close.is in
    let p = rw e at c.requires in
    rw (e, ← p.1) c.put_last-in-Close.ensures

pub returns-in-Add : goal.returns-in-Add
returns-in-Add c = rw c.in-Add.is

pub returns-in-Drop : goal.returns-in-Drop
returns-in-Drop c = rw c.in-Drop.is
