-- The table of answers (01, Every answer): the number of each, what it sends, and the error code and value that this
-- carries.
use Rattle.std.specs.Prelude.{ℕ, Bool, true, false, eqb}
use Rattle.objects.specs.Faults.{fault_number}
use Rattle.answers.specs.declared.answer.Answer.{Answer}
use Rattle.answers.specs.declared.answer.Answer.TheVariants.{TableBroken, BufferTooSmall, Malformed, SenderNotListed, UnderOtherCall, NotHeld, Late, CallOpened, CallAlreadyOpen, CallClosed, ConnectionAdded, ConnectionAlreadyHeld, ConnectionRemoved, CallIdContention, DuplicateCall, ConnectionsStillExist, UnknownCall, NoShare, PathUnknownCall, NoPlaceLeft}
use Rattle.answers.specs.declared.answer.Reply.{Reply}
use Rattle.answers.specs.declared.answer.Reply.TheVariants.{Nothing, Notify, PathErr}
use Rattle.answers.specs.declared.answer.AnswerRow.{AnswerRow}

-- nothing is sent; a Notify, a PathErr is sent, with this error code and value
abbrev pub no_reply : ℕ → AnswerRow
no_reply number = record { number = number; reply = Nothing; code = 0; value = 0 }

abbrev pub by_notify : ℕ → ℕ → ℕ → AnswerRow
by_notify number code value = record { number = number; reply = Notify; code = code; value = value }

abbrev pub by_path_err : ℕ → ℕ → ℕ → AnswerRow
by_path_err number code value = record { number = number; reply = PathErr; code = code; value = value }

abbrev pub row_of : Answer → AnswerRow
row_of TableBroken = no_reply 1
row_of BufferTooSmall = no_reply 2
row_of (Malformed fault) = no_reply (fault_number fault)
row_of SenderNotListed = no_reply 11
row_of UnderOtherCall = no_reply 14
row_of NotHeld = no_reply 15
row_of Late = no_reply 16
row_of CallOpened = by_notify 20 0 0
row_of CallAlreadyOpen = by_notify 21 0 0
row_of CallClosed = by_notify 22 0 0
row_of ConnectionAdded = no_reply 23
row_of ConnectionAlreadyHeld = no_reply 24
row_of ConnectionRemoved = no_reply 25
row_of CallIdContention = by_notify 30 32 1
row_of DuplicateCall = by_notify 31 32 4
row_of ConnectionsStillExist = by_notify 32 32 2
row_of UnknownCall = by_notify 33 32 3
row_of NoShare = by_notify 34 2 0
row_of PathUnknownCall = by_path_err 35 32 3
row_of NoPlaceLeft = by_path_err 37 2 0

abbrev pub answer_number : Answer → ℕ
answer_number a = (row_of a).number

abbrev pub is : ℕ → Answer → Bool
is number a = eqb (answer_number a) number

abbrev pub error_code : Answer → ℕ
error_code a = (row_of a).code

abbrev pub error_value : Answer → ℕ
error_value a = (row_of a).value

abbrev pub is_notify : Reply → Bool
is_notify Nothing = false
is_notify Notify = true
is_notify PathErr = false

abbrev pub is_path_err : Reply → Bool
is_path_err Nothing = false
is_path_err Notify = false
is_path_err PathErr = true

abbrev pub sends_notify : Answer → Bool
sends_notify a = is_notify (row_of a).reply

abbrev pub sends_path_err : Answer → Bool
sends_path_err a = is_path_err (row_of a).reply
