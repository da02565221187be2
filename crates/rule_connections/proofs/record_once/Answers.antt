-- `record_once` meets its contract.
use borrow.Author.Tests.{lt-ltb, le-ltb}
use Rattle.rule_connections.proofs.record_once.Goals as goal

pub returns-then-k-listed : goal.returns-then-k-listed
returns-then-k-listed c = rw (lt-ltb _ _ c.if-k-listed.true) c.customer_once.ensures

pub returns : goal.returns
returns c = rw (le-ltb _ _ c.if-k-listed.false)
