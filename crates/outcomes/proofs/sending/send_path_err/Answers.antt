-- `send_path_err`: what `put_path_err` writes, with the error that the answer has.
use Rattle.outcomes.proofs.sending.send_path_err.Goals as goal

pub returns : goal.returns
returns c = rw c.error_for-error.ensures at c.put_path_err.ensures
