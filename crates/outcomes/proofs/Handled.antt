-- What handling comes to, by the test that decides: the table's rules, the form, or the message's kind.
-- Assumes nothing.
use Prim.Native.Nat.{ℕ, ◌≤◌, ◌<◌}
use mathlib.Core.Path.{◌≡◌, refl, sym, ap, ◌∙◌}
use mathlib.Core.List.{List, []}
use mathlib.Core.Bool.{Bool, true, false, cond}
use lib.ListN.{length}
use borrow.Author.Tests.{lt-ltb, le-ltb}
use Rattle.numbers.specs.Search.{is_in}
use Rattle.numbers.specs.Buffer.{at_front}
use Rattle.objects.specs.declared.fault.Fault.{Fault}
use Rattle.messages.specs.declared.message.Message.{Message}
use Rattle.messages.specs.declared.message.Message.TheVariants.{Open, Close, Add, Drop}
use Rattle.messages.specs.Read.{refused, unfit, received, read_of}
use Rattle.reply_objects.specs.Buffer.{least_buffer}
use Rattle.table.specs.Table.{Table}
use Rattle.table.specs.Total.{total_of}
use Rattle.table.specs.Lists.{Terms, roster, entries, held}
use Rattle.table.specs.Share.{is_listed}
use Rattle.table.specs.Rules.{rules_hold}
use Rattle.answers.specs.declared.answer.Answer.{Answer}
use Rattle.answers.specs.declared.answer.Answer.TheVariants.{TableBroken, BufferTooSmall, Malformed, SenderNotListed, Late}
use Rattle.spec_changes.specs.Last.{Last, last_of}
use Rattle.spec_calls.specs.Late.{is_late_message}
use Rattle.spec_calls.specs.Form.{Form, faulty, sound, sender_of, listed_or11, sound_or16, form_of}
use Rattle.spec_changes.specs.Expiry.{raised, closings_of, elapsed}
use Rattle.spec_calls.specs.Handling.{form_table, table_after, form_reply, reply_after, remembered, rule_answer, Answered, answered_as, answered_in, handled_after, handled}
use Rattle.spec_calls.specs.CallRules.{ids_in}
use Rattle.spec_calls.proofs.Untouched.{open_keeps, close_keeps}
use Rattle.outcomes.specs.declared.outcome.Outcome.{Outcome}
use Rattle.outcomes.specs.Outcomes.{handed_back, left, ruled, kept_of, kept, settled}

-- 1 changes nothing, whatever the message is
broken_table : (t : Table) (s : List ℕ) (f : Form) → form_table t s f TableBroken ≡ t
unfolding is_in
broken_table t s (faulty a) = refl
broken_table t s (sound (Open q)) = refl
broken_table t s (sound (Close q)) = refl
broken_table t s (sound (Add c)) = refl
broken_table t s (sound (Drop c)) = refl

broken_reply : (t : Table) (s : List ℕ) (f : Form) → form_reply t s f TableBroken ≡ []
broken_reply t s (faulty a) = refl
broken_reply t s (sound (Open q)) = refl
broken_reply t s (sound (Close q)) = refl
broken_reply t s (sound (Add c)) = refl
broken_reply t s (sound (Drop c)) = refl

-- every answer of an open or close keeps its MESSAGE_ID, so that code need not look at the answer
pub rule_keeps : (t : Table) (s : List ℕ) (m : Message) (u : Table) → remembered m (rule_answer t s m) u ≡ kept_of m u
rule_keeps t s (Open q) u = rw (open_keeps (total_of t) (roster t) (entries t) s q)
rule_keeps t s (Close q) u = rw (close_keeps (entries t) (held t) (ids_in s q))
rule_keeps t s (Add c) u = refl
rule_keeps t s (Drop c) u = refl

pub form_small : (r : List Terms) (k : ℕ → Last) (s : List ℕ) (room : ℕ) → room < least_buffer → form_of r k s room ≡ faulty BufferTooSmall
unfolding form_of
form_small r k s room h = rw (lt-ltb room least_buffer h)

module _ (t : Table) (s buffer : List ℕ) where
  answered_broken : answered_as t s buffer TableBroken ≡ left t buffer TableBroken
  unfolding table_after reply_after at_front
  answered_broken = rw (broken_table t s (form_of (roster t) (last_of t) s (length buffer)), broken_reply t s (form_of (roster t) (last_of t) s (length buffer)))

  pub answered_faulty : (a : Answer) → form_of (roster t) (last_of t) s (length buffer) ≡ faulty a → answered_in t s buffer ≡ left t buffer a
  unfolding table_after reply_after at_front
  answered_faulty a e = rw e

  -- a message of a listed sender
  pub answered_read : (m : Message) → form_of (roster t) (last_of t) s (length buffer) ≡ sound_or16 (last_of t) m → answered_in t s buffer ≡ settled t s buffer m
  unfolding table_after reply_after at_front sound_or16
  answered_read m e = by (is_late_message (last_of t) m) e
    where
      by : (b : Bool) → form_of (roster t) (last_of t) s (length buffer) ≡ cond b (faulty Late) (sound m)
          → answered_in t s buffer ≡ cond b (left t buffer Late) (kept m (ruled t s buffer m))
      by true e = rw e
      by false e = rw e

  pub settled_late : (m : Message) → is_late_message (last_of t) m ≡ true → settled t s buffer m ≡ left t buffer Late
  settled_late m e = rw e

  -- the rules' outcome, and then the MESSAGE_ID kept in the table that they leave
  pub settled_kept : (m : Message) (r : Outcome) (after last : Table) (b : List ℕ) → is_late_message (last_of t) m ≡ false → handed_back r after b ≡ ruled t s buffer m → last ≡ kept_of m after
      → handed_back r last b ≡ settled t s buffer m
  settled_kept m r after last b e h k =
      rw (e, k)
      (ap (λ (a : Answered). record { answer = a.answer; length = a.length; table = kept_of m a.table; buffer = a.buffer }) h
      ∙ ap (λ (u : Table). record { answer = (ruled t s buffer m).answer; length = (ruled t s buffer m).length; table = u; buffer = (ruled t s buffer m).buffer })
      (sym (rule_keeps t s m (ruled t s buffer m).table)))

  -- ---- the whole: 1, 2, and any other message in the table after the closings (02, A7)

  module _ (time period : ℕ) where
    pub handled_broken : rules_hold t ≡ false → handled t s buffer time period ≡ handled_after [] (left t buffer TableBroken)
    handled_broken h = rw h (ap (handled_after []) answered_broken)

    pub handled_small : rules_hold t ≡ true → length buffer < least_buffer → handled t s buffer time period ≡ handled_after [] (left t buffer BufferTooSmall)
    handled_small h k = rw (h, lt-ltb (length buffer) least_buffer k) (ap (handled_after []) (answered_faulty BufferTooSmall (form_small (roster t) (last_of t) s (length buffer) k)))

    pub handled_elapsed : rules_hold t ≡ true → least_buffer ≤ length buffer
        → handled t s buffer time period ≡ handled_after (closings_of (raised t time) period) (answered_in (elapsed t time period) s buffer)
    handled_elapsed h k = rw (h, le-ltb (length buffer) least_buffer k)

-- ---- the form, by what the message is read as

module _ (r : List Terms) (k : ℕ → Last) (s : List ℕ) (room : ℕ) (h : least_buffer ≤ room) where
  pub form_refused : (fault : Fault) (offset headers : ℕ) → read_of s ≡ refused fault offset headers → form_of r k s room ≡ faulty (Malformed fault)
  unfolding form_of
  form_refused fault offset headers e = rw (le-ltb room least_buffer h, e)

  pub form_unfit : (fault : Fault) (sender headers : ℕ) → read_of s ≡ unfit fault sender headers → is_listed r sender ≡ true → form_of r k s room ≡ faulty (Malformed fault)
  unfolding form_of listed_or11
  form_unfit fault sender headers e l = rw (le-ltb room least_buffer h, e, l)

  pub form_unfit_unlisted : (fault : Fault) (sender headers : ℕ) → read_of s ≡ unfit fault sender headers → is_listed r sender ≡ false → form_of r k s room ≡ faulty SenderNotListed
  unfolding form_of listed_or11
  form_unfit_unlisted fault sender headers e l = rw (le-ltb room least_buffer h, e, l)

  pub form_listed : (m : Message) (headers : ℕ) → read_of s ≡ received m headers → is_listed r (sender_of m) ≡ true → form_of r k s room ≡ sound_or16 k m
  unfolding form_of listed_or11
  form_listed m headers e l = rw (le-ltb room least_buffer h, e, l)

  pub form_unlisted : (m : Message) (headers : ℕ) → read_of s ≡ received m headers → is_listed r (sender_of m) ≡ false → form_of r k s room ≡ faulty SenderNotListed
  unfolding form_of listed_or11
  form_unlisted m headers e l = rw (le-ltb room least_buffer h, e, l)
