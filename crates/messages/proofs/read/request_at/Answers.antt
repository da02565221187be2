-- `read::request_at` meets its contract: each field is the number that was read.
use Rattle.messages.specs.Fields.{request_at}
use Rattle.messages.proofs.read.request_at.Goals as goal

pub returns : goal.returns
unfolding request_at
returns c =
    simp (c.get32.ensures, c.get32-2.ensures, c.get16.ensures, c.long_size.ensures, c.get24.ensures, c.get32-3.ensures, c.from.ensures, c.get16-2.ensures)
