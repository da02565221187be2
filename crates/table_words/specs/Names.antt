-- Words of the contracts: a name's bytes, four to a word.
use Rattle.std.specs.Prelude.{ℕ, ◌+◌, ◌*◌, List, get_or}

-- word k of a name: four of its bytes, the low one first
abbrev pub word_in : List ℕ → ℕ → ℕ
word_in name k =
    get_or name (4 * k) 0 + get_or name (4 * k + 1) 0 * 256 + get_or name (4 * k + 2) 0 * 65536 + get_or name (4 * k + 3) 0 * 16777216
