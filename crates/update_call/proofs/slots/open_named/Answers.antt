-- `slots::open_named` meets its contract.
use Rattle.spec_changes.specs.Calls.{opened}
use Rattle.spec_calls.proofs.Names.{name_size}
use Rattle.update_call.proofs.slots.open_named.Goals as goal

pub returns : goal.returns
unfolding opened
returns c =
    rw (c.fill_slot.ensures, c.call_with-call.ensures, c.time-opened.ensures, c.name_words-name.ensures, name_size c.args.msg.now c.args.q c.requires.0)
