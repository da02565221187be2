-- What a Notify with an answer leaves: the answer, the reply's length and bytes, and the next own identifier taken.
use Rattle.std.specs.Prelude.{ℕ, ◌≡◌, List, Option, length}
use Rattle.numbers.specs.Buffer.{at_front}
use Rattle.messages.specs.declared.message.CallRequest.{CallRequest}
use Rattle.messages.specs.Status.{call_bit}
use Rattle.replies.specs.Messages.{notify_bytes, notify_made_bytes}
use Rattle.table.specs.Table.{Table}
use Rattle.answers.specs.declared.answer.Answer.{Answer}
use Rattle.spec_changes.specs.Calls.{identifier_taken}
use Rattle.spec_calls.specs.Handling.{own_id, notify_for}
use Rattle.outcomes.specs.declared.outcome.Outcome.{Outcome}
use Rattle.outcomes.specs.declared.request.MadeIds.{MadeIds}
use Rattle.outcomes.specs.Sending.{sent_bytes}

abbrev pub reply_bytes : Table → List ℕ → CallRequest → ℕ → Answer → List ℕ
reply_bytes t s q status a = notify_bytes s (notify_for t.address (own_id t) q status a)

-- with a call's ID and name (02, A6)
abbrev pub made_bytes : Table → List ℕ → CallRequest → Answer → ℕ → List ℕ → List ℕ
made_bytes t s q a call name = notify_made_bytes s (notify_for t.address (own_id t) q call_bit a) call name

-- one or the other: with the IDs of the call that the node made, if it did
abbrev pub noted_bytes : Table → List ℕ → CallRequest → ℕ → Answer → Option MadeIds → List ℕ
noted_bytes t s q status a made = sent_bytes s (notify_for t.address (own_id t) q status a) made

pub record Notified (t : Table) (bytes : List ℕ) (a : Answer) (buffer : List ℕ) (r : Outcome) (after : Table) (exit : List ℕ) : Type 0 where
  pub answer : r.answer ≡ a
  pub length : r.length ≡ length bytes
  pub table : after ≡ identifier_taken t
  pub reply : exit ≡ at_front bytes buffer
