-- What a customer asks for by name: retries, refusals, the roster's form, the node's time and the table rules. The
-- statements are those of specs/Claims.antt.
-- Assumes nothing.
use Prim.Native.Nat.{ℕ}
use mathlib.Core.Path.{◌≡◌, refl, sym, ap, ap₂, ◌∙◌, fun_ext, subst}
use mathlib.Core.List.{List, map}
use mathlib.Core.Bool.{Bool, true, false, cond, ◌||◌}
use lib.ListN.{length}
use Rattle.numbers.specs.Search.{is_in}
use Rattle.objects.specs.declared.fields.MessageId.{MessageId}
use Rattle.messages.specs.declared.message.CallRequest.{CallRequest}
use Rattle.messages.specs.declared.message.Message.{Message}
use Rattle.messages.specs.declared.message.Message.TheVariants.{Open, Close, Add, Drop}
use Rattle.table.specs.Table.{Table}
use Rattle.table.specs.Total.{total_of}
use Rattle.table.specs.Lists.{roster, Entry, entries}
use Rattle.spec_changes.specs.Calls.{slot_of, closed, refreshed_at, identifier_taken}
use Rattle.spec_changes.specs.Connections.{added, removed}
use Rattle.spec_changes.specs.Expiry.{elapsed}
use Rattle.spec_changes.specs.Last.{last_of, last_kept}
use Rattle.spec_changes.proofs.Last.{last_form, last_time, last_occupied, last_calls, last_customers}
use Rattle.spec_changes.proofs.Opened.{opened_form, opened_time}
use Rattle.spec_changes.proofs.Refreshed.{refreshed_form, refreshed_time}
use Rattle.spec_changes.proofs.Expired.{elapsed_form, elapsed_time}
use Rattle.spec_changes.proofs.Tables.{closed_form, closed_time, added_form, added_time, removed_form, removed_time}
use Rattle.answers.specs.declared.answer.Answer.{Answer}
use Rattle.answers.specs.declared.answer.Answer.TheVariants.{TableBroken, BufferTooSmall, Malformed, SenderNotListed, UnderOtherCall, NotHeld, Late, CallOpened, CallAlreadyOpen, CallClosed, ConnectionAdded, ConnectionAlreadyHeld, ConnectionRemoved, CallIdContention, DuplicateCall, ConnectionsStillExist, UnknownCall, NoShare, PathUnknownCall, NoPlaceLeft}
use Rattle.answers.specs.Answers.{answer_number, is, sends_notify}
use Rattle.spec_calls.specs.Late.{keeps}
use Rattle.spec_calls.specs.Form.{Form, faulty, sound, form_of}
use Rattle.spec_calls.specs.CallRules.{ids_in, is_named_by, is_retry}
use Rattle.spec_calls.specs.PathRules.{lsp_of, held_by}
use Rattle.spec_calls.specs.Handling.{answer_from2, changed_by, identified, remembered, form_table, table_after}
use Rattle.spec_promises.specs.Ledger.{dropped}
use Rattle.spec_promises.specs.Promises.{Input, fed, table_then, at_once, table_found, Agrees, without_last, Unchanged, Cause}
use Rattle.spec_promises.specs.Claims.{FormStays, TimeRises, RulesAfter, RetryIs21, SetupCause, RefusedUnchanged, QuietUnchanged}
use Rattle.spec_calls.proofs.Untouched.{Untouched, changed_same, remembered_same}
use Rattle.spec_calls.proofs.Decided.{open_again, open_same}
use Rattle.spec_promises.proofs.Due.{open_cause}
use Rattle.spec_promises.proofs.Formed.{numbered, fault_keeps}
use Rattle.spec_promises.proofs.Found.{found_by}
use Rattle.spec_promises.proofs.Step.{found_agrees, found_roster, found_last, found_total, answer_found, step_agrees}

-- ---- a refused message leaves calls and connections as they were

as_it_was : (t : Table) → Unchanged t t
as_it_was t = record { occupied = refl; calls = refl; customers = refl }

-- where no change is made, at most the next own identifier moves
no_change : (t u : Table) (b notified : Bool) → b ≡ false → Unchanged t (cond notified (identifier_taken (cond b u t)) (cond b u t))
no_change t u b true e = rw e (record { occupied = refl; calls = refl; customers = refl })
no_change t u b false e = rw e (as_it_was t)

changed_unchanged : (t : Table) (s : List ℕ) (m : Message) (a : Answer) → is 20 a ≡ false → is 21 a ≡ false → is 22 a ≡ false → is 23 a ≡ false → is 25 a ≡ false
    → Unchanged t (identified a (changed_by t s m a))
changed_unchanged t s (Open q) a e20 e21 e22 e23 e25 = rw e20 (no_change t (refreshed_at t (slot_of t (is_named_by s q))) (is 21 a) (sends_notify a) e21)
changed_unchanged t s (Close q) a e20 e21 e22 e23 e25 = no_change t (closed t (ids_in s q)) (is 22 a) (sends_notify a) e22
changed_unchanged t s (Add c) a e20 e21 e22 e23 e25 = no_change t (added t (held_by c)) (is 23 a) (sends_notify a) e23
changed_unchanged t s (Drop c) a e20 e21 e22 e23 e25 = no_change t (removed t (lsp_of c.lsp)) (is 25 a) (sends_notify a) e25

form_unchanged : (t : Table) (s : List ℕ) (f : Form) (a : Answer) → is 20 a ≡ false → is 21 a ≡ false → is 22 a ≡ false → is 23 a ≡ false → is 25 a ≡ false
    → Unchanged t (form_table t s f a)
form_unchanged t s (faulty _) a e20 e21 e22 e23 e25 = as_it_was t
form_unchanged t s (sound m) a e20 e21 e22 e23 e25 =
    let h = changed_unchanged t s m a e20 e21 e22 e23 e25 in
    record {
      occupied = remembered_same (λ (u : Table). u.occupied) last_occupied a _ m ∙ h.occupied;
      calls = remembered_same (λ (u : Table). u.calls) last_calls a _ m ∙ h.calls;
      customers = remembered_same (λ (u : Table). map without_last u.customers) (λ u sender id. last_customers u sender id without_last (λ c. refl)) a _ m ∙ h.customers;
    }

-- a message in the table that it finds
message_unchanged : (t : Table) (s : List ℕ) (room : ℕ) (a : Answer) → is 20 a ≡ false → is 21 a ≡ false → is 22 a ≡ false → is 23 a ≡ false → is 25 a ≡ false
    → Unchanged t (table_after t s room a)
unfolding table_after
message_unchanged t s room a = form_unchanged t s (form_of (roster t) (last_of t) s room) a

pub refused_unchanged : RefusedUnchanged
refused_unchanged t x e20 e21 e22 e23 e25 =
    subst (Unchanged (table_found t x)) (sym (found_by t x).table) (message_unchanged (table_found t x) x.message (length x.buffer) (fed t x).answer e20 e21 e22 e23 e25)

-- an answer that keeps a MESSAGE_ID sends a Notify, and the other way round
pub keeps_notify : (a : Answer) → keeps a ≡ sends_notify a
unfolding is_in
keeps_notify TableBroken = refl
keeps_notify BufferTooSmall = refl
keeps_notify (Malformed f) = fault_keeps (Malformed f) (numbered f)
keeps_notify SenderNotListed = refl
keeps_notify UnderOtherCall = refl
keeps_notify NotHeld = refl
keeps_notify Late = refl
keeps_notify CallOpened = refl
keeps_notify CallAlreadyOpen = refl
keeps_notify CallClosed = refl
keeps_notify ConnectionAdded = refl
keeps_notify ConnectionAlreadyHeld = refl
keeps_notify ConnectionRemoved = refl
keeps_notify CallIdContention = refl
keeps_notify DuplicateCall = refl
keeps_notify ConnectionsStillExist = refl
keeps_notify UnknownCall = refl
keeps_notify NoShare = refl
keeps_notify PathUnknownCall = refl
keeps_notify NoPlaceLeft = refl

pub neither : (x y : Bool) → (x || y) ≡ false → (x ≡ false) × (y ≡ false)
neither true y h = (h, cc)
neither false y h = (refl, h)

-- 20, 21 and 22 do
pub notified : (a : Answer) → sends_notify a ≡ false → (is 20 a ≡ false) × (is 21 a ≡ false) × (is 22 a ≡ false)
unfolding is_in
notified a e =
    let x = neither (is 20 a) _ (keeps_notify a ∙ e) in
    let y = neither (is 21 a) _ x.1 in
    (x.0, y.0, (neither (is 22 a) _ y.1).0)

remembered_none : (m : Message) (a : Answer) (t : Table) → keeps a ≡ false → remembered m a t ≡ t
remembered_none (Open q) a t e = rw e
remembered_none (Close q) a t e = rw e
remembered_none (Add c) a t e = refl
remembered_none (Drop c) a t e = refl

as_before : (t u : Table) (b n : Bool) → b ≡ false → n ≡ false → cond n (identifier_taken (cond b u t)) (cond b u t) ≡ t
as_before t u b n e f = rw (e, f)

changed_quiet : (t : Table) (s : List ℕ) (m : Message) (a : Answer) → sends_notify a ≡ false → is 23 a ≡ false → is 25 a ≡ false → identified a (changed_by t s m a) ≡ t
changed_quiet t s (Open q) a n e23 e25 = rw (notified a n).0 (as_before t (refreshed_at t (slot_of t (is_named_by s q))) (is 21 a) (sends_notify a) (notified a n).1 n)
changed_quiet t s (Close q) a n e23 e25 = as_before t (closed t (ids_in s q)) (is 22 a) (sends_notify a) (notified a n).2 n
changed_quiet t s (Add c) a n e23 e25 = as_before t (added t (held_by c)) (is 23 a) (sends_notify a) e23 n
changed_quiet t s (Drop c) a n e23 e25 = as_before t (removed t (lsp_of c.lsp)) (is 25 a) (sends_notify a) e25 n

form_quiet : (t : Table) (s : List ℕ) (f : Form) (a : Answer) → sends_notify a ≡ false → is 23 a ≡ false → is 25 a ≡ false → form_table t s f a ≡ t
form_quiet t s (faulty _) a n e23 e25 = refl
form_quiet t s (sound m) a n e23 e25 = remembered_none m a _ (keeps_notify a ∙ n) ∙ changed_quiet t s m a n e23 e25

message_quiet : (t : Table) (s : List ℕ) (room : ℕ) (a : Answer) → sends_notify a ≡ false → is 23 a ≡ false → is 25 a ≡ false → table_after t s room a ≡ t
unfolding table_after
message_quiet t s room a = form_quiet t s (form_of (roster t) (last_of t) s room) a

pub quiet_unchanged : QuietUnchanged
quiet_unchanged t x n e23 e25 = (found_by t x).table ∙ message_quiet (table_found t x) x.message (length x.buffer) (fed t x).answer n e23 e25

-- ---- what no message changes: the roster's form, and the node's time once the message has found the table

-- what neither a change touches nor the last MESSAGE_ID that is kept
module _ {A : Type 0} (f : Table → A) (o : Untouched f) (keep : (t : Table) (sender : ℕ) (id : MessageId) → f (last_kept t sender id) ≡ f t) where
  form_same : (t : Table) (s : List ℕ) (g : Form) (a : Answer) → f (form_table t s g a) ≡ f t
  form_same t s (faulty _) a = refl
  form_same t s (sound m) a = remembered_same f keep a _ m ∙ changed_same f o t s m a

  message_same : (t : Table) (s : List ℕ) (room : ℕ) (a : Answer) → f (table_after t s room a) ≡ f t
  unfolding table_after
  message_same t s room a = form_same t s (form_of (roster t) (last_of t) s room) a

  -- so it is as it was found
  pub as_found : (t : Table) (x : Input) → f (table_then t x) ≡ cond (at_once (fed t x).answer) (f t) (f (elapsed t x.time x.period))
  as_found t x = ap f (found_by t x).table ∙ message_same (table_found t x) x.message (length x.buffer) (fed t x).answer ∙ by (at_once (fed t x).answer)
    where
      by : (b : Bool) → f (cond b t (elapsed t x.time x.period)) ≡ cond b (f t) (f (elapsed t x.time x.period))
      by true = refl
      by false = refl

form_untouched : Untouched (λ t. t.form)
form_untouched = record { next = λ t. refl; opening = opened_form; refresh = refreshed_form; close = closed_form; add = added_form; remove = removed_form }

pub form_stays : FormStays
form_stays t x = as_found (λ u. u.form) form_untouched last_form t x ∙ by (at_once (fed t x).answer)
  where
    by : (b : Bool) → cond b t.form (elapsed t x.time x.period).form ≡ t.form
    by true = refl
    by false = elapsed_form t x.time x.period

time_untouched : Untouched (λ t. t.time)
time_untouched = record { next = λ t. refl; opening = opened_time; refresh = refreshed_time; close = closed_time; add = added_time; remove = removed_time }

pub time_rises : TimeRises
time_rises t x = as_found (λ u. u.time) time_untouched last_time t x ∙ ap (λ n. cond (at_once (fed t x).answer) t.time n) (elapsed_time t x.time x.period)

-- ---- a retry finds the call it opened

module _ (t : Table) (l : List Entry) (g : Agrees t l) (x : Input) (q : CallRequest) (e : form_of (roster t) (last_of t) x.message (length x.buffer) ≡ sound (Open q)) where
  -- the message has no fault in the table that it finds
  pub found_sound : form_of (roster (table_found t x)) (last_of (table_found t x)) x.message (length x.buffer) ≡ sound (Open q)
  found_sound = ap₂ (λ r k. form_of r k x.message (length x.buffer)) (found_roster t l g x) (fun_ext (found_last t l g x)) ∙ e

  again : (u : Table) (k : List Entry) → Agrees u k → form_of (roster u) (last_of u) x.message (length x.buffer) ≡ sound (Open q) → is_retry k x.message q ≡ true
      → answer_from2 u x.message (length x.buffer) ≡ CallAlreadyOpen
  again u k h f known = rw (f, open_again (total_of u) (roster u) (entries u) x.message q (rw (h.calls (is_named_by x.message q)) known))

  pub answered_21 : is_retry (dropped (fed t x).closings l) x.message q ≡ true → (fed t x).answer ≡ CallAlreadyOpen
  answered_21 known = answer_found t l g x ∙ again (table_found t x) (dropped (fed t x).closings l) (found_agrees t l g x) found_sound known

refreshed_only : (t u : Table) (x : Input) (q : CallRequest) (a : Answer) → form_of (roster u) (last_of u) x.message (length x.buffer) ≡ sound (Open q) → a ≡ CallAlreadyOpen
    → table_after u x.message (length x.buffer) a ≡ last_kept (identifier_taken (refreshed_at u (slot_of u (is_named_by x.message q)))) q.sender q.sequence
unfolding table_after is_in
refreshed_only t u x q a f e = rw (f, e)

pub retry_is_21 : RetryIs21
retry_is_21 t l g x q e known =
    let a = answered_21 t l g x q e known in
    (ap answer_number a, (found_by t x).table ∙ refreshed_only t (table_found t x) x q (fed t x).answer (found_sound t l g x q e) a)

-- ---- a setup that is refused had to be

pub setup_cause : SetupCause
setup_cause t l g x q e =
    let k = dropped (fed t x).closings l in
    by (table_found t x) (fed t x).answer k (found_total t l g x) (found_roster t l g x) (answer_found t l g x) (found_sound t l g x q e) (found_agrees t l g x)
  where
    by : (u : Table) (a : Answer) (k : List Entry) → total_of u ≡ total_of t → roster u ≡ roster t → a ≡ answer_from2 u x.message (length x.buffer)
        → form_of (roster u) (last_of u) x.message (length x.buffer) ≡ sound (Open q) → Agrees u k → Cause (total_of t) (roster t) k x.message q (answer_number a)
    by u a k n r d f h =
        rw (d, f, open_same (total_of u) (roster u) (entries u) k x.message q h.calls, n, r) (open_cause (total_of t) (roster t) k x.message q)

-- ---- the rules hold after every message

pub rules_after : RulesAfter
rules_after t l g x = (step_agrees t l g x).rules
