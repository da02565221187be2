-- `head::set_used_word` meets its contract: the two words are the low and the high half.
use native.Mathlib.Omega.{arith}
use Rattle.table_words.proofs.Stored.{used_stored}
use Rattle.table_words.proofs.head.set_used_word.Goals as goal

pub returns : goal.returns
returns c =
    used_stored c.args.t.now c.args.k _ _ c.args.word (omega arith) c.requires (omega arith)
