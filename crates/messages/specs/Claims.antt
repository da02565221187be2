-- What a reading is worth to whoever uses it; proved in proofs/Inside.antt, proofs/Refused.antt and proofs/Padding.antt.
use Rattle.std.specs.Prelude.{ℕ, ◌+◌, ◌≤◌, ◌<◌, ◌≡◌, ◌⊎◌, List, true, false, length, get_or}
use Rattle.objects.specs.declared.fault.Fault.{Fault}
use Rattle.objects.specs.Faults.{fault_number, is_of_object}
use Rattle.objects.specs.Forms.{name_length}
use Rattle.objects.specs.FirstFault.{FirstFault}
use Rattle.objects.specs.Part.{part_of}
use Rattle.messages.specs.declared.message.Message.{Message}
use Rattle.messages.specs.Fields.{long_size}
use Rattle.messages.specs.Inside.{Inside}
use Rattle.messages.specs.Read.{refused, received, read_of}

-- the parts of a message that is read lie within it, with the sizes that 01's table gives
abbrev pub ReadInside : Type 0
ReadInside = (s : List ℕ) (message : Message) (headers : ℕ) → read_of s ≡ received message headers → Inside s message

-- 02, A3: a refusal with a fault of one object has the place of the first faulty object, any other has 0: a node that names the object behind
-- it, or a place for a missing object, is none
abbrev pub RefusedAt : Type 0
RefusedAt = (s : List ℕ) (fault : Fault) (offset headers : ℕ) → read_of s ≡ refused fault offset headers
    → ((is_of_object (fault_number fault) ≡ true) × FirstFault s fault offset headers) ⊎ ((is_of_object (fault_number fault) ≡ false) × (offset ≡ 0))

-- the session names of two SESSION_ATTRIBUTEs are the same bytes but for zeros at the end, counted or not
pub record PaddedAlike (s : List ℕ) (a : ℕ) (r : List ℕ) (b : ℕ) : Type 0 where
  pub common : ℕ
  pub first : common ≤ name_length s a
  pub second : common ≤ name_length r b
  pub same : (i : ℕ) → i < common → get_or s (a + 8 + i) 0 ≡ get_or r (b + 8 + i) 0
  pub first_zeros : (i : ℕ) → common ≤ i → i < name_length s a → get_or s (a + 8 + i) 0 ≡ 0
  pub second_zeros : (i : ℕ) → common ≤ i → i < name_length r b → get_or r (b + 8 + i) 0 ≡ 0

-- the long Call ID that a request with its SESSION_ATTRIBUTE at a place has
abbrev pub long_at : List ℕ → ℕ → List ℕ
long_at s attribute = part_of s (record { at = attribute + 8; size = long_size s attribute })

-- two such requests have one long ID (02, A1), so that what is said of a retry is said of a padded one: a node that
-- counts padding finds another call, and refuses the retry 30
abbrev pub SameLongPadded : Type 0
SameLongPadded = (s : List ℕ) (a : ℕ) (r : List ℕ) (b : ℕ) → a + 8 + name_length s a ≤ length s → b + 8 + name_length r b ≤ length r
    → PaddedAlike s a r b → long_at s a ≡ long_at r b
