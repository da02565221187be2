-- `error_for`: the row of the answer has the code and the value.
use Rattle.outcomes.proofs.sending.error_for.Goals as goal

pub returns : goal.returns
returns c = rw c.row_of-row.ensures
