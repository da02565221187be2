-- `sender_of`: by the message's kind.
use Rattle.node.proofs.handle.sender_of.Goals as goal

pub returns-in-Open : goal.returns-in-Open
returns-in-Open c = rw c.in-Open.is

pub returns-in-Close : goal.returns-in-Close
returns-in-Close c = rw c.in-Close.is

pub returns-in-Add : goal.returns-in-Add
returns-in-Add c = rw c.in-Add.is

pub returns-in-Drop : goal.returns-in-Drop
returns-in-Drop c = rw c.in-Drop.is
