-- `read::is_call_request` meets its contract: what was read is what the definition tests.
use Rattle.messages.specs.Read.{is_call_request}
use Rattle.messages.proofs.read.is_call_request.Goals as goal

pub returns : goal.returns
unfolding is_call_request
returns c = simp (c.bit_set-2.ensures, c.bit_set.ensures, c.get16-value.ensures, c.get32-bits.ensures)
