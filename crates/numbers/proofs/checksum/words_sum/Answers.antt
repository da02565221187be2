-- `checksum::words_sum` meets its contract: all words are those of half the length.
use Rattle.std.proofs.Common.{rules}
use Rattle.numbers.specs.Checksum.{words_sum}
use Rattle.numbers.proofs.checksum.words_sum.Goals as goal

pub returns : goal.returns
unfolding words_sum
returns c = search rules
