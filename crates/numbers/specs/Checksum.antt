-- The checksum's sum (01, Message layout): one's complement, of 16-bit words, carries brought round.
use Rattle.std.specs.Prelude.{ℕ, zero, suc, ◌+◌, ◌*◌, ◌/◌, ◌%◌, List, length}
use Rattle.numbers.specs.BigEndian.{be16_at}

-- the sum of the first n words
unfoldable pub first_words : List ℕ → ℕ → ℕ
first_words s zero = 0
first_words s (suc n) = first_words s n + be16_at s (2 * n)

-- what does not fit 16 bits, the carries, added at the low end
abbrev pub carries_round : ℕ → ℕ
carries_round t = t % 65536 + t / 65536

-- no carry is left after two rounds where there are at most 65,536 words
unfoldable pub all_round : ℕ → ℕ
all_round t = carries_round (carries_round t)

-- the sum of the words so far, the first n
abbrev pub sum_so_far : List ℕ → ℕ → ℕ
sum_so_far s n = all_round (first_words s n)

-- the sum of all words of s
unfoldable pub words_sum : List ℕ → ℕ
words_sum s = all_round (first_words s (length s / 2))
