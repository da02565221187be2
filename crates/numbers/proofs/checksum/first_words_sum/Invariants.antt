-- `checksum::first_words_sum` meets its contract: the invariant is the contract at the words passed.
use Rattle.std.proofs.Common.{◌≡◌, ◌*◌, ◌≤◌}
use Rattle.numbers.specs.Checksum.{first_words, sum_so_far}
use Rattle.numbers.proofs.checksum.first_words_sum.Given as goal

abbrev pub invariant-loop-k : goal.invariant-loop-k
invariant-loop-k l = (l.k ≤ l.n) × (l.sum ≡ sum_so_far l.s l.k) × (first_words l.s l.k ≤ 65535 * l.k)
