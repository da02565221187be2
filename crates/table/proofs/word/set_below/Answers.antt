-- `word::set_below` meets its contract: leading zeros stand above the last bit that is set.
use Rattle.std.proofs.Common.{lt_of_le_of_lt, arith, rules}
use lib.Count.{leading_le}
use Rattle.table.proofs.OneWord.{leading_is}
use Rattle.table.proofs.word.set_below.Goals as goal

pub overflow_cast-result : goal.overflow_cast-result
overflow_cast-result c = record { fits = lt_of_le_of_lt (leading_le 64 _) (omega arith) }

pub overflow_sub-result : goal.overflow_sub-result
overflow_sub-result c = omega (arith, leading_le 64 c.args.word)

pub returns : goal.returns
returns c = leading_is c.args.word (search rules)
