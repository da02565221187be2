-- `read::connection_at` meets its contract: each field is the number that was read.
use Rattle.messages.specs.Fields.{connection_in}
use Rattle.messages.proofs.read.connection_at.Goals as goal

pub returns : goal.returns
unfolding connection_in
returns c =
    simp (c.get32.ensures, c.get16.ensures, c.get32-2.ensures, c.get32-3.ensures, c.get16-2.ensures, c.get16-3.ensures)
