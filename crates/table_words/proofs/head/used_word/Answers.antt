-- `head::used_word` meets its contract: the two words are the low and the high half.
use native.Mathlib.Omega.{arith}
use Rattle.table.proofs.Cells.{used_at}
use Rattle.table_words.proofs.head.used_word.Goals as goal

pub returns : goal.returns
returns c = omega (arith, used_at c.args.t.now c.args.k c.requires)
