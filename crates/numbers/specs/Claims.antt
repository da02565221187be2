-- What is claimed of bytes, by name: the checksum's sum (proofs/Sum.antt), names without their padding
-- (proofs/Padding.antt).
use Rattle.std.specs.Prelude.{◌≡◌, ℕ, suc, ◌+◌, ◌<◌, ◌≤◌, ◌≢◌, List, length, slice_index}
use Rattle.numbers.specs.BigEndian.{Bytes}
use Rattle.numbers.specs.Checksum.{words_sum}
use Rattle.numbers.specs.Search.{unpadded}

-- two rounds bring all carries round, for every byte string of up to 65,536 words: the sum fits 16 bits
abbrev pub NoCarryLeft : Type 0
NoCarryLeft = (s : List ℕ) → Bytes s → length s ≤ 131072 → words_sum s < 65536

-- of n bytes from a place, m stay: what is cut off is zeros, and what stays is empty or ends in a byte that is not zero
pub record CutOff (s : List ℕ) (at n m : ℕ) : Type 0 where
  pub most : m ≤ n
  pub zeros : (i : ℕ) → m ≤ i → i < n → slice_index s (at + i) ≡ 0
  pub last : (k : ℕ) → m ≡ suc k → slice_index s (at + k) ≢ 0

-- that holds of `unpadded`, and of no other number: nothing has to be believed of its recursion. A node that cuts a name
-- at its first zero, or keeps a zero at its end, has another number
abbrev pub UnpaddedSays : Type 0
UnpaddedSays = (s : List ℕ) (at n : ℕ) → CutOff s at n (unpadded s at n)

abbrev pub UnpaddedOnly : Type 0
UnpaddedOnly = (s : List ℕ) (at n m : ℕ) → CutOff s at n m → m ≡ unpadded s at n
