-- `header::checksum_holds` meets its contract: the sum is taken only where a checksum was sent.
use borrow.Author.Tests.{eq-eqb, ne_eqb}
use Rattle.messages.specs.Header.{checksum_holds}
use Rattle.messages.proofs.header.checksum_holds.Goals as goal

pub returns-then-get16-eq0 : goal.returns-then-get16-eq0
unfolding checksum_holds
returns-then-get16-eq0 c = simp (← c.get16.ensures, eq-eqb _ _ c.if-get16-eq0.true)

pub returns : goal.returns
unfolding checksum_holds
returns c = simp (← c.get16.ensures, c.words_sum.ensures, ne_eqb _ _ c.if-get16-eq0.false)
