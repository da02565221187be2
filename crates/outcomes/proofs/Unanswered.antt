-- Outcomes that send nothing.
-- Assumes nothing.
use Prim.Native.Nat.{ℕ}
use mathlib.Core.Path.{◌≡◌, refl, ap, ◌∙◌}
use mathlib.Core.List.{List, []}
use Rattle.numbers.specs.Buffer.{at_front}
use Rattle.messages.specs.declared.message.Message.{Message}
use Rattle.table.specs.Table.{Table}
use Rattle.answers.specs.declared.answer.Answer.{Answer}
use Rattle.spec_calls.specs.Handling.{rule_answer, changed_by, identified, reply_to}
use Rattle.outcomes.specs.Outcomes.{handed_back, left, ruled}
use Rattle.outcomes.proofs.Ruled.{ruled_by}
use Rattle.outcomes.specs.declared.outcome.Outcome.{Outcome}

abbrev quiet : Answer → Outcome
quiet a = record { answer = a; length = 0 }

no_bytes : (b : List ℕ) → b ≡ at_front [] b
unfolding at_front
no_bytes b = refl

pub ruled_quiet : (t : Table) (s b : List ℕ) (m : Message) (a : Answer) (u : Table) (r : Outcome) → rule_answer t s m ≡ a → r ≡ quiet a
    → u ≡ identified a (changed_by t s m a) → reply_to t s m a ≡ []
    → handed_back r u b ≡ ruled t s b m
ruled_quiet t s b m a u r e p q k =
    ruled_by t s b m a r.answer r.length u b e (ap (λ r. r.answer) p) (ap (λ r. r.length) p ∙ rw k) q (rw k (no_bytes b))

pub left_quiet : (t : Table) (b : List ℕ) (a : Answer) (r : Outcome) → r ≡ quiet a
    → handed_back r t b ≡ left t b a
left_quiet t b a r p = rw p
