-- `slots::open_made` meets its contract.
use Rattle.spec_changes.specs.Calls.{opened}
use Rattle.spec_calls.proofs.MadeName.{name_length_lem}
use Rattle.update_call.proofs.slots.open_made.Goals as goal

pub returns : goal.returns
unfolding opened
returns c =
    let q = c.args.q in
    rw (c.fill_slot.ensures, c.call_with-call.ensures, c.time-opened.ensures, c.requires.0, name_length_lem q.endpoint q.sender c.args.id.0)
