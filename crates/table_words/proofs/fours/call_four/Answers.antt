-- `fours::call_four` meets its contract: what stands there is the call's four.
use Rattle.table_words.proofs.Found.{call_four_lem}
use Rattle.table_words.proofs.fours.call_four.Goals as goal

pub returns : goal.returns
returns c =
    rw (c.word.ensures, c.word-2.ensures) (call_four_lem c.args.t.now c.args.i c.requires)
