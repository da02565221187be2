-- Numbers in a list of bytes, most significant byte first (01, first paragraph).
use Rattle.std.specs.Prelude.{ℕ, ◌+◌, ◌*◌, ◌/◌, ◌%◌, ◌<◌, List, [], ◌∷◌, slice_index}

-- a byte string: every number is below 256
abbrev pub Bytes : List ℕ → Type 0
Bytes s = (k : ℕ) → slice_index s k < 256

-- the number of 16, 24 or 32 bits whose first byte stands at a place
abbrev pub be16_at : List ℕ → ℕ → ℕ
be16_at s at = slice_index s at * 256 + slice_index s (at + 1)

abbrev pub be24_at : List ℕ → ℕ → ℕ
be24_at s at = slice_index s at * 65536 + slice_index s (at + 1) * 256 + slice_index s (at + 2)

abbrev pub be32_at : List ℕ → ℕ → ℕ
be32_at s at = slice_index s at * 16777216 + slice_index s (at + 1) * 65536 + slice_index s (at + 2) * 256 + slice_index s (at + 3)

-- the bytes of a 16-bit number, of a number's low 24 bits, of a 32-bit number
abbrev pub bytes16 : ℕ → List ℕ
bytes16 v = v / 256 ∷ v % 256 ∷ []

abbrev pub bytes24 : ℕ → List ℕ
bytes24 v = v / 65536 % 256 ∷ v / 256 % 256 ∷ v % 256 ∷ []

abbrev pub bytes32 : ℕ → List ℕ
bytes32 v = v / 16777216 ∷ v / 65536 % 256 ∷ v / 256 % 256 ∷ v % 256 ∷ []
