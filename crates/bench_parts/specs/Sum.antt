-- Words of a contract: the sum that is asked for, where the bytes have it.
use Rattle.std.specs.Prelude.{ℕ, ◌/◌, List, cond, ◌||◌, ltb, length}
use Rattle.numbers.specs.Checksum.{sum_so_far}

abbrev pub part_sum : List ℕ → ℕ → ℕ
part_sum s words = cond (ltb 65535 (length s) || ltb (length s / 2) words) 0 (sum_so_far s words)
