-- `notify_for`: the error is the one that the answer has.
use Rattle.outcomes.proofs.sending.notify_for.Goals as goal

pub returns : goal.returns
returns c = rw c.error_for-error.ensures
