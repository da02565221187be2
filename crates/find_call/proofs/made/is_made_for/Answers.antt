-- `made::is_made_for` meets its contract.
use Rattle.find_call.proofs.made.is_made_for.Goals as goal

pub returns : goal.returns
returns c = rw c.call_head-c.ensures
