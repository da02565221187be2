-- `record_free_clear` meets its contract.
use borrow.Author.Tests.{lt-ltb, le-ltb}
use Rattle.rule_zeros.proofs.record_free_clear.Goals as goal

pub returns-then-k-listed : goal.returns-then-k-listed
returns-then-k-listed c = rw (lt-ltb _ _ c.if-k-listed.true) c.customer_free_clear.ensures

pub returns : goal.returns
returns c = rw (le-ltb _ _ c.if-k-listed.false) c.customer_clear.ensures
