-- `total::total_for` meets its contract, form by form.
use Rattle.std.proofs.Common.{arith, ne_eqb}
use Rattle.table.proofs.total.total_for.Goals as goal

pub returns-then-form-eq2 : goal.returns-then-form-eq2
returns-then-form-eq2 c = (rw c.if-form-eq2.true, omega arith)

pub returns-else-form-eq2 : goal.returns-else-form-eq2
returns-else-form-eq2 c = (rw (ne_eqb _ 2 c.if-form-eq2.false), omega arith)
