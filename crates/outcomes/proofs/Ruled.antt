-- What the code of a message's kind has to show, field by field.
-- Assumes nothing.
use Prim.Native.Nat.{ℕ}
use mathlib.Core.Path.{◌≡◌}
use mathlib.Core.List.{List}
use lib.ListN.{length}
use Rattle.numbers.specs.Buffer.{at_front}
use Rattle.messages.specs.declared.message.Message.{Message}
use Rattle.table.specs.Table.{Table}
use Rattle.answers.specs.declared.answer.Answer.{Answer}
use Rattle.spec_calls.specs.Handling.{rule_answer, changed_by, identified, reply_to, Answered}
use Rattle.outcomes.specs.Outcomes.{ruled}

-- an outcome of the rules, field by field, under the answer that the rules give
pub ruled_by : (t : Table) (s buffer : List ℕ) (m : Message) (a : Answer) (answer : Answer) (n : ℕ) (table : Table) (exit : List ℕ) → rule_answer t s m ≡ a
    → answer ≡ a → n ≡ length (reply_to t s m a) → table ≡ identified a (changed_by t s m a) → exit ≡ at_front (reply_to t s m a) buffer
    → ◌≡◌ {A = Answered} (record { answer = answer; length = n; table = table; buffer = exit }) (ruled t s buffer m)
ruled_by t s buffer m a answer n table exit e p q r k = rw (e, p, q, r, k)
