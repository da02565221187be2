-- Late messages (02, A8; RFC 2961, MESSAGE_ID): an overtaken Notify, which lies behind the last one accepted of its sender.
use Rattle.std.specs.Prelude.{ℕ, ◌+◌, ◌-◌, ◌%◌, ◌<◌, ◌≡◌, [], ◌∷◌, Bool, true, false, ◌&&◌, ltb, eqb}
use Rattle.numbers.specs.Search.{is_in}
use Rattle.objects.specs.declared.fields.MessageId.{MessageId}
use Rattle.messages.specs.declared.message.Message.{Message}
use Rattle.messages.specs.declared.message.Message.TheVariants.{Open, Close, Add, Drop}
use Rattle.spec_changes.specs.Last.{Last, none, last}
use Rattle.answers.specs.declared.answer.Answer.{Answer}
use Rattle.answers.specs.Answers.{answer_number}

-- "the old identifier less the new, read as a signed 32-bit number, is above zero": modulo 2^32 it is from 1 to 2^31 - 1
unfoldable pub is_behind : ℕ → ℕ → Bool
is_behind old new =
    ltb 0 ((old + 4294967296 - new) % 4294967296) && ltb ((old + 4294967296 - new) % 4294967296) 2147483648

-- what the two tests come to, for identifiers of 32 bits: the old one is the new one and d more, around the ring, with d from
-- 1 to 2^31 - 1; never both ways round, and never of equal ones
pub record Signed (old new : ℕ) : Type 0 where
  pub ahead : is_behind old new ≡ true → (d : ℕ) × (0 < d) × (d < 2147483648) × ((new + d) % 4294967296 ≡ old)
  pub behind : (d : ℕ) → 0 < d → d < 2147483648 → (new + d) % 4294967296 ≡ old → is_behind old new ≡ true
  pub one_way : is_behind old new ≡ true → is_behind new old ≡ false
  pub retry : old ≡ new → is_behind old new ≡ false

abbrev pub LateSigned : Type 0
LateSigned = (old new : ℕ) → old < 4294967296 → new < 4294967296 → Signed old new

-- "with the same epoch"; where none is kept, none is late
abbrev pub is_late : Last → MessageId → Bool
is_late none id = false
is_late (last old) id = eqb old.epoch id.epoch && is_behind old.identifier id.identifier

-- a Notify is compared with what is kept of its sender, a Path with nothing
abbrev pub is_late_message : (ℕ → Last) → Message → Bool
is_late_message k (Open q) = is_late (k q.sender) q.sequence
is_late_message k (Close q) = is_late (k q.sender) q.sequence
is_late_message k (Add c) = false
is_late_message k (Drop c) = false

-- "only answers 20 to 34 keep one": those of an open or close. 23, 24 and 25 answer a Path or PathTear
abbrev pub keeps : Answer → Bool
keeps a = is_in (answer_number a) (20 ∷ 21 ∷ 22 ∷ 30 ∷ 31 ∷ 32 ∷ 33 ∷ 34 ∷ [])
