-- What `handle` gives back and leaves, by the test that decides: 1 and 2 at once, any other message after the closings.
-- Assumes nothing.
use Prim.Native.Nat.{ℕ, ◌≤◌}
use mathlib.Core.Path.{◌≡◌, refl, sym, ap, ◌∙◌}
use mathlib.Core.List.{List, []}
use mathlib.Core.Bool.{true}
use lib.ListN.{length}
use Rattle.numbers.specs.Buffer.{at_front}
use Rattle.numbers.proofs.Buffer.{nothing_written}
use Rattle.reply_objects.specs.Buffer.{least_buffer}
use Rattle.table.specs.Table.{Table}
use Rattle.table.specs.Rules.{rules_hold}
use Rattle.table.specs.Words.{table_of}
use Rattle.spec_changes.specs.Expiry.{raised, closings_of, closing_words, elapsed}
use Rattle.spec_changes.proofs.Told.{rules_kept, kept_rules}
use Rattle.spec_changes.proofs.Freed.{words_sized}
use Rattle.spec_changes.proofs.Expired.{elapsed_kept}
use Rattle.answers.specs.declared.answer.Answer.{Answer}
use Rattle.spec_calls.specs.Handling.{Answered, answered_in, Handled, handled_after, handled}
use Rattle.outcomes.specs.declared.outcome.Outcome.{Outcome}
use Rattle.outcomes.specs.Outcomes.{handed_back, left}
use Rattle.outcomes.proofs.Handled.{handled_elapsed}
use Rattle.node.specs.declared.handle.Handling.{Handling}
use Rattle.node.specs.Handed.{Handed}

pub handed_at_once : (h : Handled) (t : Table) (buffer row : List ℕ) (a : Answer) (r : Handling) → h ≡ handled_after [] (left t buffer a) → r ≡ record { answer = a; length = 0; closed = 0 }
    → Handed h row r t buffer row
unfolding closing_words
handed_at_once h t buffer row a r e k = rw (e, k) (record { answer = refl; closed = refl; length = refl; table = refl; reply = refl; closings = sym (nothing_written row) })

-- the closings keep the rules
pub elapsed_rules : (w : List ℕ) (time period : ℕ) → rules_hold (table_of w) ≡ true → rules_hold (elapsed (table_of w) time period) ≡ true
elapsed_rules w time period h = kept_rules (elapsed (table_of w) time period) (elapsed_kept (table_of w) time period (words_sized w) (rules_kept (table_of w) h))

pub handed_elapsed : (t u v : Table) (s buffer row : List ℕ) (time period n : ℕ) (r : Outcome) (exit back : List ℕ) → rules_hold t ≡ true → least_buffer ≤ length buffer
    → n ≡ length (closings_of (raised t time) period) → u ≡ elapsed t time period → back ≡ at_front (closing_words (closings_of (raised t time) period)) row
    → handed_back r v exit ≡ answered_in u s buffer
    → Handed (handled t s buffer time period) row (record { answer = r.answer; length = r.length; closed = n }) v exit back
handed_elapsed t u v s buffer row time period n r exit back h k c e b x =
    let same : handed_back r v exit ≡ answered_in (elapsed t time period) s buffer = x ∙ ap (λ (w : Table). answered_in w s buffer) e in
    rw (handled_elapsed t s buffer time period h k)
    (record {
      answer = ap (λ (a : Answered). a.answer) same;
      closed = c;
      length = ap (λ (a : Answered). a.length) same;
      table = ap (λ (a : Answered). a.table) same;
      reply = ap (λ (a : Answered). a.buffer) same;
      closings = b;
    })
