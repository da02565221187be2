-- The table that a message finds (02, A7), of any table: refused 1 or 2 it is the one handed in, else the one after the
-- closings; and what handling comes to from there.
-- Assumes nothing.
use Prim.Native.Nat.{ℕ}
use mathlib.Core.Path.{◌≡◌, refl, ap}
use mathlib.Core.List.{List, []}
use mathlib.Core.Bool.{Bool, true, false, cond, not, ◌||◌}
use lib.Dec.{ltb}
use lib.ListN.{length}
use Rattle.numbers.specs.Buffer.{at_front}
use Rattle.objects.specs.declared.fault.Fault.{Fault}
use Rattle.objects.specs.declared.fault.Fault.TheVariants.{MessageLength, Version, Checksum, MessageType, ObjectLength, ObjectClass, ObjectForm, ObjectCount, NotCallRequest, CallIdentity}
use Rattle.messages.specs.declared.message.Message.{Message}
use Rattle.messages.specs.declared.message.Message.TheVariants.{Open, Close, Add, Drop}
use Rattle.std.specs.Prelude.{Ok, Err}
use Rattle.messages.specs.declared.read.Refusal.TheVariants.{Misformed, Unfit}
use Rattle.messages.specs.Read.{Reading, refused, read_of}
use Rattle.reply_objects.specs.Buffer.{least_buffer}
use Rattle.table.specs.Table.{Table}
use Rattle.table.specs.Total.{total_of}
use Rattle.table.specs.Lists.{roster, entries, held}
use Rattle.table.specs.Share.{is_listed}
use Rattle.table.specs.Rules.{rules_hold}
use Rattle.spec_changes.specs.Expiry.{Closing, raised, closings_of, elapsed}
use Rattle.answers.specs.declared.answer.Answer.{Answer}
use Rattle.answers.specs.declared.answer.Answer.TheVariants.{TableBroken, BufferTooSmall, Malformed, SenderNotListed, Late}
use Rattle.spec_changes.specs.Last.{last_of}
use Rattle.spec_calls.specs.Late.{is_late_message}
use Rattle.spec_calls.specs.Form.{Form, faulty, sound, sender_of, listed_or11, sound_or16, read_form, form_of}
use Rattle.spec_calls.specs.CallRules.{ids_in}
use Rattle.spec_calls.specs.PathRules.{lsp_of, held_by}
use Rattle.spec_calls.specs.Handling.{form_answer, answer_from2, table_after, reply_after, answered_as, answered_in, Handled, handled_after}
use Rattle.spec_calls.proofs.Decided.{open_never, close_never, add_never, drop_never}
use Rattle.spec_promises.specs.Promises.{Input, handled_by, at_once}

-- ---- 1 and 2 are given at once, and no other answer is either

neither : (x y : Bool) → x ≡ false → y ≡ false → (x || y) ≡ false
neither x y a b = rw (a, b)

fault_later : (f : Fault) → at_once (Malformed f) ≡ false
fault_later MessageLength = refl
fault_later Version = refl
fault_later Checksum = refl
fault_later MessageType = refl
fault_later ObjectLength = refl
fault_later ObjectClass = refl
fault_later ObjectForm = refl
fault_later ObjectCount = refl
fault_later NotCallRequest = refl
fault_later CallIdentity = refl

module _ (t : Table) (s : List ℕ) where
  sound_later : (m : Message) → at_once (form_answer t s (sound m)) ≡ false
  sound_later (Open q) =
      neither _ _ (open_never (total_of t) (roster t) (entries t) s q 1 refl refl refl refl refl) (open_never (total_of t) (roster t) (entries t) s q 2 refl refl refl refl refl)
  sound_later (Close q) = neither _ _ (close_never (entries t) (held t) (ids_in s q) 1 refl refl refl) (close_never (entries t) (held t) (ids_in s q) 2 refl refl refl)
  sound_later (Add c) = neither _ _ (add_never (entries t) (held t) (held_by c) 1 refl refl refl refl refl) (add_never (entries t) (held t) (held_by c) 2 refl refl refl refl refl)
  sound_later (Drop c) = neither _ _ (drop_never (held t) (lsp_of c.lsp) 1 refl refl) (drop_never (held t) (lsp_of c.lsp) 2 refl refl)

  listed_later : (sender : ℕ) (f : Form) → at_once (form_answer t s f) ≡ false → at_once (form_answer t s (listed_or11 (roster t) sender f)) ≡ false
  unfolding listed_or11
  listed_later sender f h = by (is_listed (roster t) sender)
    where
      by : (b : Bool) → at_once (form_answer t s (cond b f (faulty SenderNotListed))) ≡ false
      by true = h
      by false = refl

  late_later : (m : Message) → at_once (form_answer t s (sound_or16 (last_of t) m)) ≡ false
  unfolding sound_or16
  late_later m = by (is_late_message (last_of t) m)
    where
      by : (b : Bool) → at_once (form_answer t s (cond b (faulty Late) (sound m))) ≡ false
      by true = refl
      by false = sound_later m

  read_later : (r : Reading) → at_once (form_answer t s (read_form (roster t) (last_of t) r)) ≡ false
  read_later (Err (Misformed fault offset headers)) = fault_later fault
  read_later (Err (Unfit fault sender headers)) = listed_later sender (faulty (Malformed fault)) (fault_later fault)
  read_later (Ok read) = listed_later (sender_of read.message) (sound_or16 (last_of t) read.message) (late_later read.message)

  answer_later : (room : ℕ) → ltb room least_buffer ≡ false → at_once (answer_from2 t s room) ≡ false
  unfolding form_of
  answer_later room e = rw e (read_later (read_of s))

  answer_small : (room : ℕ) → ltb room least_buffer ≡ true → answer_from2 t s room ≡ BufferTooSmall
  unfolding form_of
  answer_small room e = rw e

-- ---- what handling comes to

module _ (t : Table) (x : Input) where
  abbrev found_with : Handled → Table
  found_with h = cond (at_once h.answer) t (elapsed t x.time x.period)

  pub record FoundBy (h : Handled) : Type 0 where
    pub table : h.table ≡ table_after (found_with h) x.message (length x.buffer) h.answer
    pub buffer : h.buffer ≡ at_front (reply_after (found_with h) x.message (length x.buffer) h.answer) x.buffer
    pub length : h.length ≡ length (reply_after (found_with h) x.message (length x.buffer) h.answer)
    pub closings : h.closings ≡ cond (at_once h.answer) [] (closings_of (raised t x.time) x.period)

  -- from a table and closings that go with the answer
  found_as : (u : Table) (l : List Closing) (a : Answer) (b : Bool) → at_once a ≡ b → u ≡ cond b t (elapsed t x.time x.period)
      → l ≡ cond b [] (closings_of (raised t x.time) x.period) → FoundBy (handled_after l (answered_as u x.message x.buffer a))
  found_as u l a b e p q =
      let same : u ≡ cond (at_once a) t (elapsed t x.time x.period) = rw e p in
      record {
        table = ap (λ (w : Table). table_after w x.message (length x.buffer) a) same;
        buffer = ap (λ (w : Table). at_front (reply_after w x.message (length x.buffer) a) x.buffer) same;
        length = ap (λ (w : Table). length (reply_after w x.message (length x.buffer) a)) same;
        closings = rw e q;
      }

  pub found_by : FoundBy (handled_by t x)
  found_by = by (rules_hold t) (ltb (length x.buffer) least_buffer) refl
    where
      s : List ℕ
      s = x.message

      by : (b c : Bool) → ltb (length x.buffer) least_buffer ≡ c
          → FoundBy (cond (not b) (handled_after [] (answered_as t s x.buffer TableBroken))
          (cond c (handled_after [] (answered_in t s x.buffer))
          (handled_after (closings_of (raised t x.time) x.period) (answered_in (elapsed t x.time x.period) s x.buffer))))
      by false c e = found_as t [] TableBroken true refl refl refl
      by true true e = found_as t [] (answer_from2 t s (length x.buffer)) true (rw (answer_small t s (length x.buffer) e)) refl refl
      by true false e =
          let u = elapsed t x.time x.period in
          found_as u (closings_of (raised t x.time) x.period) (answer_from2 u s (length x.buffer)) false (answer_later u s (length x.buffer) e) refl refl

  -- in a table that keeps the rules the answer is that from test 2 on, in the table found
  abbrev Defined : Handled → Type 0
  Defined h = h.answer ≡ answer_from2 (found_with h) x.message (length x.buffer)

  defined_as : (u : Table) (l : List Closing) (b : Bool) → at_once (answer_from2 u x.message (length x.buffer)) ≡ b → u ≡ cond b t (elapsed t x.time x.period)
      → Defined (handled_after l (answered_in u x.message x.buffer))
  defined_as u l b e p =
      let same : u ≡ cond (at_once (answer_from2 u x.message (length x.buffer))) t (elapsed t x.time x.period) = rw e p in
      ap (λ (w : Table). answer_from2 w x.message (length x.buffer)) same

  pub answer_is : rules_hold t ≡ true → Defined (handled_by t x)
  answer_is h = rw h (by (ltb (length x.buffer) least_buffer) refl)
    where
      s : List ℕ
      s = x.message

      by : (c : Bool) → ltb (length x.buffer) least_buffer ≡ c
          → Defined (cond c (handled_after [] (answered_in t s x.buffer))
          (handled_after (closings_of (raised t x.time) x.period) (answered_in (elapsed t x.time x.period) s x.buffer)))
      by true e = defined_as t [] true (rw (answer_small t s (length x.buffer) e)) refl
      by false e = let u = elapsed t x.time x.period in defined_as u (closings_of (raised t x.time) x.period) false (answer_later u s (length x.buffer) e) refl

  -- a table that breaks one is answered 1
  pub answer_1 : rules_hold t ≡ false → (handled_by t x).answer ≡ TableBroken
  answer_1 h = rw h
