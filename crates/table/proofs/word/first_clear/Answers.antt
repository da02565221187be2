-- `word::first_clear` meets its contract: trailing ones are the first bit that is not set, at most 64.
use Rattle.std.proofs.Common.{rules, ◌∙◌}
use lib.Count.{trailing_le}
use Rattle.table.proofs.OneWord.{trailing_is}
use Rattle.table.proofs.word.first_clear.Goals as goal

pub returns : goal.returns
returns c =
    let e = c.trailing_ones.ensures in
    (e ∙ trailing_is c.args.word (search rules), rw e (trailing_le 64 _))
