-- `head::set_next` meets its contract.
use native.Mathlib.Omega.{arith}
use Rattle.table_words.proofs.Stored.{head_stored}
use Rattle.table_words.proofs.head.set_next.Goals as goal

pub returns : goal.returns
returns c = let a = c.args in head_stored a.t.now 2 a.next (omega arith) (omega arith)
