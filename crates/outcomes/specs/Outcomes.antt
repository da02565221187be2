-- Words of the code's contracts: what the code hands back of a message, as `answered_in` has it
-- (spec_calls/specs/Handling.antt), and what that comes to where nothing is sent, and where the rules of the message's kind
-- decide.
use Rattle.std.specs.Prelude.{ℕ, List, cond, length}
use Rattle.numbers.specs.Buffer.{at_front}
use Rattle.messages.specs.declared.message.Message.{Message}
use Rattle.messages.specs.declared.message.Message.TheVariants.{Open, Close, Add, Drop}
use Rattle.table.specs.Table.{Table}
use Rattle.answers.specs.declared.answer.Answer.{Answer}
use Rattle.answers.specs.declared.answer.Answer.TheVariants.{Late}
use Rattle.spec_changes.specs.Last.{last_of, last_kept}
use Rattle.spec_calls.specs.Late.{is_late_message}
use Rattle.spec_calls.specs.Handling.{rule_answer, changed_by, identified, remembered, reply_to, Answered}
use Rattle.outcomes.specs.declared.outcome.Outcome.{Outcome}

-- answer and length as the code returns them, and table and buffer as it leaves them
abbrev pub handed_back : Outcome → Table → List ℕ → Answered
handed_back r table buffer = record { answer = r.answer; length = r.length; table = table; buffer = buffer }

-- an answer that sends nothing and changes nothing
abbrev pub left : Table → List ℕ → Answer → Answered
left t buffer a = record { answer = a; length = 0; table = t; buffer = buffer }

-- a message of no fault
abbrev pub ruled_as : Table → List ℕ → List ℕ → Message → Answer → Answered
ruled_as t s buffer m a = record {
  answer = a;
  length = length (reply_to t s m a);
  table = identified a (changed_by t s m a);
  buffer = at_front (reply_to t s m a) buffer;
}

abbrev pub ruled : Table → List ℕ → List ℕ → Message → Answered
ruled t s buffer m = ruled_as t s buffer m (rule_answer t s m)

-- the table that keeps the MESSAGE_ID of an open or close (02, A8): every answer of theirs keeps it (`rule_keeps`)
abbrev pub kept_of : Message → Table → Table
kept_of (Open q) t = last_kept t q.sender q.sequence
kept_of (Close q) t = last_kept t q.sender q.sequence
kept_of (Add c) t = t
kept_of (Drop c) t = t

-- the same, and its MESSAGE_ID is kept
abbrev pub kept : Message → Answered → Answered
kept m r = record { answer = r.answer; length = r.length; table = remembered m r.answer r.table; buffer = r.buffer }

-- a message of a listed sender: late, or as the rules say
abbrev pub settled : Table → List ℕ → List ℕ → Message → Answered
settled t s buffer m = cond (is_late_message (last_of t) m) (left t buffer Late) (kept m (ruled t s buffer m))
