-- `slots::refresh_slot` meets its contract.
use Rattle.spec_changes.specs.Calls.{refreshed_at}
use Rattle.update_call.proofs.slots.refresh_slot.Goals as goal

pub returns : goal.returns
unfolding refreshed_at
returns c = rw (c.put_refreshed.ensures, c.time-refreshed.ensures)
