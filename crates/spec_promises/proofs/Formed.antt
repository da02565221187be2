-- What the tests 2 to 13 and 16 say of a message: a fault's answer is none of the others, and a message without one was read
-- whole.
-- Assumes nothing.
use Prim.Native.Nat.{ℕ, ◌≤◌}
use native.Mathlib.Omega.{arith}
use mathlib.Core.Path.{◌≡◌, refl}
use mathlib.Core.List.{List}
use mathlib.Core.Bool.{Bool, true, false, cond}
use lib.Dec.{ltb}
use borrow.Author.Tests.{ne_eqb, ltb-true}
use Rattle.numbers.specs.Search.{is_in}
use Rattle.objects.specs.declared.fault.Fault.{Fault}
use Rattle.objects.specs.declared.fault.Fault.TheVariants.{MessageLength, Version, Checksum, MessageType, ObjectLength, ObjectClass, ObjectForm, ObjectCount, NotCallRequest, CallIdentity}
use Rattle.messages.specs.declared.message.Message.{Message}
use Rattle.std.specs.Prelude.{Ok, Err}
use Rattle.messages.specs.declared.read.Refusal.TheVariants.{Misformed, Unfit}
use Rattle.messages.specs.Read.{Reading, read_of}
use Rattle.messages.specs.Inside.{Inside}
use Rattle.messages.proofs.Inside.{read_inside}
use Rattle.reply_objects.specs.Buffer.{least_buffer}
use Rattle.table.specs.Lists.{Terms, Entry}
use Rattle.table.specs.Share.{is_listed}
use Rattle.answers.specs.declared.answer.Answer.{Answer}
use Rattle.answers.specs.declared.answer.Answer.TheVariants.{BufferTooSmall, Malformed, SenderNotListed, Late}
use Rattle.answers.specs.Answers.{answer_number, is}
use Rattle.spec_changes.specs.Last.{Last}
use Rattle.spec_calls.specs.Late.{is_late_message, keeps}
use Rattle.spec_calls.specs.Form.{Form, faulty, sound, sender_of, listed_or11, sound_or16, read_form, form_of}
use Rattle.spec_promises.specs.Ledger.{message_four, four_of, message_opened, with_opened, message_last, last_from}
use Rattle.spec_promises.specs.Connections.{message_held, held_of}

-- a fault is not answered 1, and its number lies below those of the rules
pub record Fault-says (a : Answer) : Type 0 where
  pub not1 : is 1 a ≡ false
  pub under20 : ltb (answer_number a) 20 ≡ true

pub fault_never : (a : Answer) → Fault-says a → (n : ℕ) → 20 ≤ n → is n a ≡ false
fault_never a i n h = ne_eqb (answer_number a) n (λ e. let z : ⊥ = omega (arith, e, ltb-true (answer_number a) 20 i.under20) in z)

-- nor does it keep a MESSAGE_ID
pub fault_keeps : (a : Answer) → Fault-says a → keeps a ≡ false
unfolding is_in
fault_keeps a i = let n = fault_never a i in rw (n 20 (omega arith), n 21 (omega arith), n 22 (omega arith), n 30 (omega arith), n 31 (omega arith), n 32 (omega arith), n 33 (omega arith), n 34 (omega arith))

-- a message without one is of a listed sender, and its parts lie within it
pub record Sound-says (r : List Terms) (s : List ℕ) (m : Message) : Type 0 where
  pub known : is_listed r (sender_of m) ≡ true
  pub inside : Inside s m
  pub four : four_of s ≡ message_four s m
  pub opened : (total : ℕ) (l : List Entry) → with_opened total l s ≡ message_opened total l s m
  pub connection : held_of s ≡ message_held m
  pub lasts : (sender : ℕ) → last_from sender s ≡ message_last sender m

abbrev pub Says : List Terms → List ℕ → Form → Type 0
Says r s (faulty a) = Fault-says a
Says r s (sound m) = Sound-says r s m

pub numbered : (f : Fault) → Fault-says (Malformed f)
numbered MessageLength = record { not1 = refl; under20 = refl }
numbered Version = record { not1 = refl; under20 = refl }
numbered Checksum = record { not1 = refl; under20 = refl }
numbered MessageType = record { not1 = refl; under20 = refl }
numbered ObjectLength = record { not1 = refl; under20 = refl }
numbered ObjectClass = record { not1 = refl; under20 = refl }
numbered ObjectForm = record { not1 = refl; under20 = refl }
numbered ObjectCount = record { not1 = refl; under20 = refl }
numbered NotCallRequest = record { not1 = refl; under20 = refl }
numbered CallIdentity = record { not1 = refl; under20 = refl }

module _ (r : List Terms) (k : ℕ → Last) (s : List ℕ) where
  listed_says : (sender : ℕ) (f : Form) → (is_listed r sender ≡ true → Says r s f) → Says r s (listed_or11 r sender f)
  unfolding listed_or11
  listed_says sender f h = by (is_listed r sender) h
    where
      by : (b : Bool) → (b ≡ true → Says r s f) → Says r s (cond b f (faulty SenderNotListed))
      by true h = h refl
      by false h = record { not1 = refl; under20 = refl }

  late_says : (m : Message) → Says r s (sound m) → Says r s (sound_or16 k m)
  unfolding sound_or16
  late_says m h = by (is_late_message k m)
    where
      by : (b : Bool) → Says r s (cond b (faulty Late) (sound m))
      by true = record { not1 = refl; under20 = refl }
      by false = h

  read_says : (x : Reading) → read_of s ≡ x → Says r s (read_form r k x)
  unfolding four_of with_opened held_of last_from
  read_says (Err (Misformed fault offset headers)) e = numbered fault
  read_says (Err (Unfit fault sender headers)) e = listed_says sender (faulty (Malformed fault)) (λ h. numbered fault)
  read_says (Ok read) e = listed_says (sender_of read.message) (sound_or16 k read.message)
      (λ h. late_says read.message (record { known = h; inside = read_inside s read.message read.headers e; four = rw e; opened = λ total l. rw e; connection = rw e; lasts = λ sender. rw e }))

  pub form_says : (room : ℕ) → Says r s (form_of r k s room)
  unfolding form_of
  form_says room = by (ltb room least_buffer)
    where
      by : (b : Bool) → Says r s (cond b (faulty BufferTooSmall) (read_form r k (read_of s)))
      by true = record { not1 = refl; under20 = refl }
      by false = read_says (read_of s) refl
