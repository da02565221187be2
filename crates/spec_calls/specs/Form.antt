-- The tests 2 to 13 and 16, on what the caller hands in and on what is kept of the senders (01, Every answer; 02, A8): a
-- fault of form, or the message that has none.
use Rattle.std.specs.Prelude.{ℕ, List, cond, ltb, Ok, Err}
use Rattle.messages.specs.declared.message.Message.{Message}
use Rattle.messages.specs.declared.message.Message.TheVariants.{Open, Close, Add, Drop}
use Rattle.messages.specs.declared.read.Refusal.TheVariants.{Misformed, Unfit}
use Rattle.messages.specs.Read.{Reading, read_of}
use Rattle.reply_objects.specs.Buffer.{least_buffer}
use Rattle.table.specs.Lists.{Terms}
use Rattle.table.specs.Share.{is_listed}
use Rattle.answers.specs.declared.answer.Answer.{Answer}
use Rattle.spec_changes.specs.Last.{Last}
use Rattle.answers.specs.declared.answer.Answer.TheVariants.{BufferTooSmall, Malformed, SenderNotListed, Late}
use Rattle.spec_calls.specs.Late.{is_late_message}

pub data Form : Type 0 where
  faulty : Answer → Form
  sound : Message → Form

abbrev pub sender_of : Message → ℕ
sender_of (Open q) = q.sender
sender_of (Close q) = q.sender
sender_of (Add c) = c.lsp.sender
sender_of (Drop c) = c.lsp.sender

-- 11 where the sender is not in the roster, else what the reading came to
unfoldable pub listed_or11 : List Terms → ℕ → Form → Form
listed_or11 r sender f = cond (is_listed r sender) f (faulty SenderNotListed)

-- 02, A8: 16 where a message that was read is late
unfoldable pub sound_or16 : (ℕ → Last) → Message → Form
sound_or16 k message = cond (is_late_message k message) (faulty Late) (sound message)

-- 3 to 10, then 11, then 12 and 13, then 16, by what is kept of each sender
abbrev pub read_form : List Terms → (ℕ → Last) → Reading → Form
read_form r k (Err (Misformed fault offset headers)) = faulty (Malformed fault)
read_form r k (Err (Unfit fault sender headers)) = listed_or11 r sender (faulty (Malformed fault))
read_form r k (Ok read) = listed_or11 r (sender_of read.message) (sound_or16 k read.message)

-- 2 comes first, also for messages that never get a reply
unfoldable pub form_of : List Terms → (ℕ → Last) → List ℕ → ℕ → Form
form_of r k message room = cond (ltb room least_buffer) (faulty BufferTooSmall) (read_form r k (read_of message))
