-- The checksum of a reply, by 01's sentence; proved in proofs/Sums.antt.
use Rattle.std.specs.Prelude.{ℕ, ◌≤◌, ◌≡◌, List, length}
use Rattle.numbers.specs.BigEndian.{Bytes, be16_at}
use Rattle.numbers.specs.Checksum.{words_sum}
use Rattle.reply_objects.specs.Header.{with_checksum}

-- 01, Message layout: the words of a message add up to FFFF, its checksum among them. The field has to be free before it
-- is filled in
abbrev pub FilledAddsUp : Type 0
FilledAddsUp = (s : List ℕ) → Bytes s → 4 ≤ length s → length s ≤ 131070 → be16_at s 2 ≡ 0 → words_sum (with_checksum s) ≡ 65535
