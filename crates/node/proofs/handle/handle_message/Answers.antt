-- `handle_message`: the kind's function does what the rules say of that kind.
use Rattle.node.proofs.handle.handle_message.Goals as goal

pub open-requires : goal.open-requires
open-requires c = let p = rw c.in-Open.is at c.requires in (p.0, p.1, p.3, p.4)

pub close_call-requires : goal.close_call-requires
close_call-requires c = let p = rw c.in-Close.is at c.requires in (p.0, p.2.1, p.3)

pub add_connection-requires : goal.add_connection-requires
add_connection-requires c = let p = rw c.in-Add.is at c.requires in (p.0, p.1, p.2, p.3)

pub returns-in-Open : goal.returns-in-Open
returns-in-Open c = rw c.in-Open.is c.open.ensures

pub returns-in-Close : goal.returns-in-Close
returns-in-Close c = rw c.in-Close.is c.close_call.ensures

pub returns-in-Add : goal.returns-in-Add
returns-in-Add c = rw c.in-Add.is c.add_connection.ensures

pub returns-in-Drop : goal.returns-in-Drop
returns-in-Drop c = rw c.in-Drop.is c.drop_connection.ensures
