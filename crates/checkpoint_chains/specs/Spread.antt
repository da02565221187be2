-- Where numbers stand, by a checkpoint's factors. Words of contracts only: no rule cites these.
use Rattle.std.specs.Prelude.{ℕ, ◌+◌, ◌*◌, ◌/◌, ◌%◌}
use Rattle.checkpoint_chains.specs.declared.Factors.{Factors}

-- the low 32 bits of x * (2 * x + 1), their halves exchanged
unfoldable pub turned : ℕ → ℕ
turned x = x * ((2 * x + 1) % 4294967296) % 4294967296 % 65536 * 65536 + x * ((2 * x + 1) % 4294967296) % 4294967296 / 65536

-- a number stirred into those before it
unfoldable pub stirred_with : ℕ → ℕ → ℕ → ℕ
stirred_with factor sum x = turned ((factor + sum + x) % 4294967296)

-- a number mixed into those before it
unfoldable pub mixed_with : Factors → ℕ → ℕ → ℕ
mixed_with f sum x = stirred_with f.fourth sum x

-- four numbers mixed
unfoldable pub mixed_four : Factors → ℕ → ℕ → ℕ → ℕ → ℕ
mixed_four f a b c d = stirred_with f.fourth (stirred_with f.second (stirred_with f.first (stirred_with f.third 0 c) a) b) d

-- one of 2,048 places: the highest 11 of 32 bits
unfoldable pub spread_over : Factors → ℕ → ℕ → ℕ → ℕ → ℕ
spread_over f a b c d = stirred_with f.third (stirred_with f.first (mixed_four f a b c d) 0) 0 / 2097152
