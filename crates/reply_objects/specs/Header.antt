-- The common header of a reply, and its checksum (01, Message layout and Reply bytes).
use Rattle.std.specs.Prelude.{ℕ, ◌-◌, List, ◌∷◌, cond, eqb}
use Rattle.std.proofs.lemmas.List.Edits.{sets}
use Rattle.numbers.specs.BigEndian.{bytes16}
use Rattle.numbers.specs.Checksum.{words_sum}

-- the common header: version 1 and flags 0, type, checksum not yet computed, TTL 255, reserved 0, length
abbrev pub header_bytes : ℕ → ℕ → List ℕ
header_bytes kind len = 16 ∷ kind ∷ 0 ∷ 0 ∷ 255 ∷ 0 ∷ bytes16 len

-- what the checksum field has to hold: the words with it add up to FFFF, and a computed zero is written FFFF
unfoldable pub checksum_of : List ℕ → ℕ
checksum_of s = cond (eqb (65535 - words_sum s) 0) 65535 (65535 - words_sum s)

-- a message with its checksum in the field
unfoldable pub with_checksum : List ℕ → List ℕ
with_checksum s = sets s 2 (bytes16 (checksum_of s))
