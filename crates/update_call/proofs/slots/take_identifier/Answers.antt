-- `slots::take_identifier` meets its contract.
use Rattle.update_call.proofs.slots.take_identifier.Goals as goal

pub returns : goal.returns
returns c =
    rw (c.set_next.ensures, c.identifier_after.ensures, c.next-n.ensures)
