-- `is_late_message`: a Notify is compared with what stands in its sender's record.
use Rattle.node.proofs.handle.is_late_message.Goals as goal

pub returns-in-Open : goal.returns-in-Open
returns-in-Open c =
    let e = c.in-Open.is in
    let p = rw e at c.requires in
    rw (e, ← p.1) c.is_late.ensures

pub returns-in-Close : goal.returns-in-Close
returns-in-Close c =
    let e = c.in-Close.is in
    let p = rw e at c.requires in
    rw (e, ← p.1) c.is_late-in-Close.ensures

pub returns-in-Add : goal.returns-in-Add
returns-in-Add c = rw c.in-Add.is

pub returns-in-Drop : goal.returns-in-Drop
returns-in-Drop c = rw c.in-Drop.is
