-- One message: table and ledger agree after it as before it, the roster stays, and connections come and go by it alone;
-- first in the table that it finds, and then with the closings before it.
-- Assumes nothing.
use Prim.Native.Nat.{ℕ, ◌+◌, ◌<◌}
use native.Mathlib.Omega.{arith}
use mathlib.Core.Path.{◌≡◌, refl, sym, ap, ◌∙◌, subst}
use mathlib.Core.List.{List, [], ◌∷◌}
use mathlib.Core.Bool.{Bool, true, false, cond}
use lib.Dec.{eqb}
use lib.ListN.{length}
use Rattle.numbers.specs.BigEndian.{Bytes}
use Rattle.lists.specs.Count.{bit, count_if, without}
use Rattle.lists.proofs.Count.{has_true, has_false, has_nothing, without_none}
use Rattle.messages.specs.declared.message.CallRequest.{CallRequest}
use Rattle.messages.specs.declared.message.Connection.{Connection}
use Rattle.messages.specs.declared.message.Message.{Message}
use Rattle.messages.specs.declared.message.Message.TheVariants.{Open, Close, Add, Drop}
use Rattle.messages.specs.Inside.{CallInside, Inside}
use Rattle.table.specs.Table.{Table}
use Rattle.table.specs.Total.{slots, total_for, total_of}
use Rattle.table.specs.Word.{is_used, lowest_free}
use Rattle.table.specs.Lists.{Terms, roster, Entry, entries, Held, held}
use Rattle.table.specs.Share.{is_listed, calls_of}
use Rattle.table.specs.Rules.{is_lsp}
use Rattle.spec_changes.specs.Calls.{entry_for, opened, is_call, slot_of, freed, closed, refreshed_at, identifier_taken}
use Rattle.spec_changes.specs.Connections.{added, removed, is_under}
use Rattle.spec_changes.specs.Expiry.{Closing, raised, closings_of, elapsed}
use Rattle.spec_changes.specs.Last.{last_of, last_kept}
use Rattle.spec_changes.proofs.Last.{last_roster, last_held}
use Rattle.spec_changes.proofs.Slot.{open_most, found_slot}
use Rattle.spec_changes.proofs.Kept.{MayOpen}
use Rattle.spec_changes.proofs.Valid.{valid_place}
use Rattle.spec_changes.proofs.Told.{rules_kept}
use Rattle.spec_changes.proofs.Closed.{closed_held}
use Rattle.spec_changes.proofs.Refreshed.{refreshed_roster, refreshed_held}
use Rattle.spec_changes.proofs.Freed.{shape_sized}
use Rattle.spec_changes.proofs.Expired.{elapsed_form, elapsed_roster, elapsed_last, elapsed_held}
use Rattle.spec_changes.proofs.Added.{MayAdd, added_roster, added_held}
use Rattle.spec_changes.proofs.Removed.{removed_roster, removed_held}
use Rattle.answers.specs.declared.answer.Answer.{Answer}
use Rattle.answers.specs.Answers.{is, sends_notify}
use Rattle.spec_calls.specs.Late.{keeps}
use Rattle.spec_calls.specs.Form.{Form, faulty, sound, sender_of, form_of}
use Rattle.spec_calls.specs.CallRules.{ids_in, is_named_by, open_answer, close_answer}
use Rattle.spec_calls.specs.PathRules.{lsp_of, held_by, add_answer, drop_answer}
use Rattle.spec_calls.specs.Handling.{rule_answer, form_answer, answer_from2, changed_by, identified, remembered_of, remembered, form_table, table_after}
use Rattle.spec_promises.specs.Ledger.{Fed, four_of, with_opened, feed, is_closed, dropped}
use Rattle.spec_promises.specs.Connections.{feed_held}
use Rattle.spec_promises.specs.Promises.{Input, fed, table_then, at_once, table_found, Agrees}
use Rattle.spec_calls.specs.Made.{new_for}
use Rattle.spec_calls.proofs.Opening.{new_fits, new_sender, may_open}
use Rattle.spec_calls.proofs.MadeSame.{new_same}
use Rattle.spec_calls.proofs.Untouched.{remembered_same}
use Rattle.spec_calls.proofs.Decided.{again_says, open_never, may_close, close_never, may_add, add_never, may_drop, drop_never}
use Rattle.spec_promises.proofs.Formed.{Says, fault_never, form_says}
use Rattle.spec_promises.proofs.Agreement.{next_agrees, last_agrees, open_agrees, open_held, close_agrees, refresh_agrees, elapsed_agrees, add_agrees, remove_agrees}
use Rattle.spec_promises.proofs.Found.{found_by, answer_is}

pub never {ℓ} : {A : Type ℓ} (b : Bool) → b ≡ true → b ≡ false → A
never b e f = let z : ◌≡◌ {A = ℕ} 0 1 = cc in absurd (omega arith)

-- what the ledger is fed of a message, but for what it makes no use of
abbrev pub fed_with : List ℕ → ℕ → Answer → Fed
fed_with s room a = record { message = s; room = room; time = 0; period = 0; answer = a; closings = [] }

-- ---- what is kept of the sender, beside all else

-- table and ledger agree as before
module _ (s : List ℕ) (bytes : Bytes s) (a : Answer) (t : Table) (l : List Entry) (g : Agrees t l) where
  request_agrees : (q : CallRequest) → is_listed (roster t) q.sender ≡ true → CallInside s q → Agrees (remembered_of q a t) l
  request_agrees q known i = by (keeps a)
    where
      by : (b : Bool) → Agrees (cond b (last_kept t q.sender q.sequence) t) l
      by true = last_agrees t l g q.sender q.sequence known (i.epoch_fits bytes)
      by false = g

  remembered_agrees : (m : Message) → is_listed (roster t) (sender_of m) ≡ true → Inside s m → Agrees (remembered m a t) l
  remembered_agrees (Open q) known i = request_agrees q known i.0
  remembered_agrees (Close q) known i = request_agrees q known i.0
  remembered_agrees (Add c) known i = g
  remembered_agrees (Drop c) known i = g

-- ---- one message in the table that it finds

module _ (t : Table) (l : List Entry) (g : Agrees t l) where
  -- the identifier is taken where a Notify is sent
  by_notify_lem : (notified : Bool) (u : Table) (k : List Entry) → Agrees u k → Agrees (cond notified (identifier_taken u) u) k
  by_notify_lem true u k h = next_agrees u k h
  by_notify_lem false u k h = h

  -- a change, where an answer makes it, that the ledger follows, and one that it need not follow
  by_answer : (b : Bool) (u v : Table) (k : List Entry) → (b ≡ true → Agrees u k) → Agrees v l → Agrees (cond b u v) (cond b k l)
  by_answer true u v k h i = h refl
  by_answer false u v k h i = i

  by_path : (b : Bool) (u : Table) → (b ≡ true → Agrees u l) → Agrees (cond b u t) l
  by_path true u h = h refl
  by_path false u h = g

  -- 21: the call that is refreshed is open
  found_open : (s : List ℕ) (q : CallRequest) → is 21 (open_answer (total_of t) (roster t) (entries t) s q) ≡ true
      → (slot_of t (is_named_by s q) < slots) × (is_used t.occupied (slot_of t (is_named_by s q)) ≡ true)
  found_open s q e =
      let f = found_slot t (is_named_by s q) (has_true _ (entries t) (again_says (total_of t) (roster t) (entries t) s q e)) in
      (f.0, f.1)

  may_add_all : (s : List ℕ) → Bytes s → (c : Connection) → Says (roster t) s (sound (Add c)) → is 23 (add_answer (entries t) (held t) (held_by c)) ≡ true → MayAdd t (held_by c)
  may_add_all s bytes c i e =
      let m = may_add (entries t) (held t) (held_by c) e in
      record { known = i.known; new = m.0; call = m.1; room = m.2; valid = valid_place (held_by c).lsp (i.inside.tunnel_fits bytes) (i.inside.lsp_fits bytes) }

  may_open_now : (s : List ℕ) (q : CallRequest) → is_listed (roster t) q.sender ≡ true → is 20 (open_answer (total_of t) (roster t) (entries t) s q) ≡ true
      → MayOpen (total_of t) (roster t) (entries t) (entry_for (lowest_free t.occupied) (new_for (entries t) s q))
  may_open_now s q known e = may_open (entries t) s q (total_of t) (roster t) (lowest_free t.occupied) known (omega (arith, open_most t)) e

  -- ---- the roster stays

  roster_by : (b notified : Bool) (u v : Table) → (b ≡ true → roster u ≡ roster t) → roster v ≡ roster t → roster (cond notified (identifier_taken (cond b u v)) (cond b u v)) ≡ roster t
  roster_by true true u v h i = h refl
  roster_by true false u v h i = h refl
  roster_by false true u v h i = i
  roster_by false false u v h i = i

  refreshed_by : (b : Bool) (i : ℕ) → roster (cond b (refreshed_at t i) t) ≡ roster t
  refreshed_by true i = refreshed_roster t i
  refreshed_by false i = refl

  pub changed_roster : (s : List ℕ) → Bytes s → (m : Message) → Says (roster t) s (sound m) → roster (identified (rule_answer t s m) (changed_by t s m (rule_answer t s m))) ≡ roster t
  unfolding opened freed
  changed_roster s bytes (Open q) i =
      let a = open_answer (total_of t) (roster t) (entries t) s q in
      roster_by (is 20 a) (sends_notify a) (opened t (new_for (entries t) s q)) _ (λ e. refl) (refreshed_by (is 21 a) (slot_of t (is_named_by s q)))
  changed_roster s bytes (Close q) i =
      let a = close_answer (entries t) (held t) (ids_in s q) in
      roster_by (is 22 a) (sends_notify a) (closed t (ids_in s q)) t (λ e. refl) refl
  changed_roster s bytes (Add c) i =
      let a = add_answer (entries t) (held t) (held_by c) in
      roster_by (is 23 a) (sends_notify a) (added t (held_by c)) t (λ e. added_roster t (held_by c) g.shape (may_add_all s bytes c i e)) refl
  changed_roster s bytes (Drop c) i =
      let a = drop_answer (held t) (lsp_of c.lsp) in
      roster_by (is 25 a) (sends_notify a) (removed t (lsp_of c.lsp)) t (λ e. removed_roster t (lsp_of c.lsp) g.shape (may_drop (held t) (lsp_of c.lsp) e)) refl

  form_roster : (s : List ℕ) → Bytes s → (f : Form) → Says (roster t) s f → roster (form_table t s f (form_answer t s f)) ≡ roster t
  form_roster s bytes (faulty a) i = refl
  form_roster s bytes (sound m) i = remembered_same roster last_roster (rule_answer t s m) _ m ∙ changed_roster s bytes m i

  pub message_roster : (s : List ℕ) → Bytes s → (room : ℕ) → roster (table_after t s room (answer_from2 t s room)) ≡ roster t
  unfolding table_after
  message_roster s bytes room = form_roster s bytes (form_of (roster t) (last_of t) s room) (form_says (roster t) (last_of t) s room)

  module _ (s : List ℕ) (bytes : Bytes s) (room : ℕ) where
    pub changed_agrees : (m : Message) → Says (roster t) s (sound m)
        → Agrees (identified (rule_answer t s m) (changed_by t s m (rule_answer t s m))) (feed (total_of t) (fed_with s room (rule_answer t s m)) l)
    changed_agrees (Open q) i =
        let a = open_answer (total_of t) (roster t) (entries t) s q in
        let again = slot_of t (is_named_by s q) in
        rw (i.opened (total_of t) l, open_never (total_of t) (roster t) (entries t) s q 22 refl refl refl refl refl, ← (new_same (entries t) l g.calls s q))
        (by_notify_lem (sends_notify a) _ _
        (by_answer (is 20 a) (opened t (new_for (entries t) s q)) (cond (is 21 a) (refreshed_at t again) t) _
        (λ e. open_agrees t l g (new_for (entries t) s q) (may_open_now s q i.known e) (new_fits (entries t) s q bytes i.inside.0 i.inside.1 (omega (arith, open_most t))))
        (by_path (is 21 a) (refreshed_at t again) (λ e. let f = found_open s q e in refresh_agrees t l g again f.0 f.1))))
    changed_agrees (Close q) i =
        let a = close_answer (entries t) (held t) (ids_in s q) in
        rw (i.four, close_never (entries t) (held t) (ids_in s q) 20 refl refl refl)
        (by_notify_lem (sends_notify a) _ _
        (by_answer (is 22 a) (closed t (ids_in s q)) t (without (is_call (ids_in s q)) l)
        (λ e. let m = may_close (entries t) (held t) (ids_in s q) e in close_agrees t l g (ids_in s q) m.0 m.1) g))
    changed_agrees (Add c) i =
        let a = add_answer (entries t) (held t) (held_by c) in
        rw (add_never (entries t) (held t) (held_by c) 20 refl refl refl refl refl, add_never (entries t) (held t) (held_by c) 22 refl refl refl refl refl)
        (by_notify_lem (sends_notify a) _ _ (by_path (is 23 a) (added t (held_by c)) (λ e. add_agrees t l g (held_by c) (may_add_all s bytes c i e))))
    changed_agrees (Drop c) i =
        let a = drop_answer (held t) (lsp_of c.lsp) in
        rw (drop_never (held t) (lsp_of c.lsp) 20 refl refl, drop_never (held t) (lsp_of c.lsp) 22 refl refl)
        (by_notify_lem (sends_notify a) _ _ (by_path (is 25 a) (removed t (lsp_of c.lsp)) (λ e. remove_agrees t l g (lsp_of c.lsp) (may_drop (held t) (lsp_of c.lsp) e))))

    form_agrees : (f : Form) → Says (roster t) s f → Agrees (form_table t s f (form_answer t s f)) (feed (total_of t) (fed_with s room (form_answer t s f)) l)
    form_agrees (faulty a) i = rw (fault_never a i 20 (omega arith), fault_never a i 22 (omega arith)) g
    form_agrees (sound m) i =
        remembered_agrees s bytes (rule_answer t s m) _ _ (changed_agrees m i) m
        (subst (λ (r : List Terms). is_listed r (sender_of m) ≡ true) (sym (changed_roster s bytes m i)) i.known) i.inside

    pub message_agrees : Agrees (table_after t s room (answer_from2 t s room)) (feed (total_of t) (fed_with s room (answer_from2 t s room)) l)
    unfolding table_after
    message_agrees = form_agrees (form_of (roster t) (last_of t) s room) (form_says (roster t) (last_of t) s room)

  -- ---- 20 is given only to an open, and counts for its sender

  form_opens : (s : List ℕ) (f : Form) → Says (roster t) s f → is 20 (form_answer t s f) ≡ true → (a : ℕ)
      → calls_of (with_opened (total_of t) l s) a ≡ bit (eqb (four_of s).sender a) + calls_of l a
  form_opens s (faulty b) i e a = never _ e (fault_never b i 20 (omega arith))
  form_opens s (sound (Open q)) i e a = rw (i.opened (total_of t) l, i.four, new_sender l s q)
  form_opens s (sound (Close q)) i e a = never _ e (close_never (entries t) (held t) (ids_in s q) 20 refl refl refl)
  form_opens s (sound (Add c)) i e a = never _ e (add_never (entries t) (held t) (held_by c) 20 refl refl refl refl refl)
  form_opens s (sound (Drop c)) i e a = never _ e (drop_never (held t) (lsp_of c.lsp) 20 refl refl)

  pub message_opens : (s : List ℕ) (room : ℕ) → is 20 (answer_from2 t s room) ≡ true → (a : ℕ) → calls_of (with_opened (total_of t) l s) a ≡ bit (eqb (four_of s).sender a) + calls_of l a
  message_opens s room = form_opens s (form_of (roster t) (last_of t) s room) (form_says (roster t) (last_of t) s room)

  -- ---- 22 is given only to a call of the ledger that has no connections
  form_closes : (s : List ℕ) (f : Form) → Says (roster t) s f → is 22 (form_answer t s f) ≡ true
      → (0 < count_if (is_call (four_of s)) l) × (count_if (is_under (four_of s)) (held t) ≡ 0)
  form_closes s (faulty a) i e = never _ e (fault_never a i 22 (omega arith))
  form_closes s (sound (Open q)) i e =
      never _ e (open_never (total_of t) (roster t) (entries t) s q 22 refl refl refl refl refl)
  form_closes s (sound (Close q)) i e =
      rw (i.four, ← (g.calls (is_call (ids_in s q)))) (may_close (entries t) (held t) (ids_in s q) e)
  form_closes s (sound (Add c)) i e = never _ e (add_never (entries t) (held t) (held_by c) 22 refl refl refl refl refl)
  form_closes s (sound (Drop c)) i e = never _ e (drop_never (held t) (lsp_of c.lsp) 22 refl refl)

  pub message_closes : (s : List ℕ) (room : ℕ) → is 22 (answer_from2 t s room) ≡ true → (0 < count_if (is_call (four_of s)) l) × (count_if (is_under (four_of s)) (held t) ≡ 0)
  message_closes s room = form_closes s (form_of (roster t) (last_of t) s room) (form_says (roster t) (last_of t) s room)

  -- ---- the connections afterwards are those that messages and answers tell

  held_by_lem : (b notified : Bool) (u : Table) (k : List Held) (p : Held → Bool) → (b ≡ true → count_if p (held u) ≡ count_if p k)
      → count_if p (held (cond notified (identifier_taken (cond b u t)) (cond b u t))) ≡ count_if p (cond b k (held t))
  held_by_lem true true u k p h = h refl
  held_by_lem true false u k p h = h refl
  held_by_lem false true u k p h = refl
  held_by_lem false false u k p h = refl

  -- a change that leaves the connections as they are
  held_as_before : (b notified : Bool) (u v : Table) (p : Held → Bool) → (b ≡ true → count_if p (held u) ≡ count_if p (held t)) → count_if p (held v) ≡ count_if p (held t)
      → count_if p (held (cond notified (identifier_taken (cond b u v)) (cond b u v))) ≡ count_if p (held t)
  held_as_before true true u v p h i = h refl
  held_as_before true false u v p h i = h refl
  held_as_before false true u v p h i = i
  held_as_before false false u v p h i = i

  held_refreshed : (b : Bool) (i : ℕ) (p : Held → Bool) → (b ≡ true → i < slots) → count_if p (held (cond b (refreshed_at t i) t)) ≡ count_if p (held t)
  held_refreshed true i p h = ap (count_if p) (refreshed_held t i (h refl) g.shape)
  held_refreshed false i p h = refl

  module _ (s : List ℕ) (bytes : Bytes s) (room : ℕ) (p : Held → Bool) where
    changed_held : (m : Message) → Says (roster t) s (sound m)
        → count_if p (held (identified (rule_answer t s m) (changed_by t s m (rule_answer t s m)))) ≡ count_if p (feed_held (fed_with s room (rule_answer t s m)) (held t))
    changed_held (Open q) i =
        let a = open_answer (total_of t) (roster t) (entries t) s q in
        rw (open_never (total_of t) (roster t) (entries t) s q 23 refl refl refl refl refl, open_never (total_of t) (roster t) (entries t) s q 25 refl refl refl refl refl)
        (held_as_before (is 20 a) (sends_notify a) (opened t (new_for (entries t) s q)) _ p (λ e. open_held t l g (new_for (entries t) s q) (may_open_now s q i.known e) p)
        (held_refreshed (is 21 a) (slot_of t (is_named_by s q)) p (λ e. (found_open s q e).0)))
    changed_held (Close q) i =
        let a = close_answer (entries t) (held t) (ids_in s q) in
        rw (close_never (entries t) (held t) (ids_in s q) 23 refl refl refl, close_never (entries t) (held t) (ids_in s q) 25 refl refl refl)
        (held_as_before (is 22 a) (sends_notify a) (closed t (ids_in s q)) t p
        (λ e. let m = may_close (entries t) (held t) (ids_in s q) e in closed_held t (ids_in s q) g.shape m.0 m.1 p) refl)
    changed_held (Add c) i =
        let a = add_answer (entries t) (held t) (held_by c) in
        rw (i.connection, add_never (entries t) (held t) (held_by c) 25 refl refl refl refl refl)
        (held_by_lem (is 23 a) (sends_notify a) (added t (held_by c)) (held_by c ∷ held t) p (λ e. added_held t (held_by c) g.shape (may_add_all s bytes c i e) p))
    changed_held (Drop c) i =
        let a = drop_answer (held t) (lsp_of c.lsp) in
        rw (i.connection, drop_never (held t) (lsp_of c.lsp) 23 refl refl)
        (held_by_lem (is 25 a) (sends_notify a) (removed t (lsp_of c.lsp)) (without (is_lsp (lsp_of c.lsp)) (held t)) p
        (λ e. removed_held t (lsp_of c.lsp) g.shape (may_drop (held t) (lsp_of c.lsp) e) (rules_kept t g.rules) p))

    form_held : (f : Form) → Says (roster t) s f
        → count_if p (held (form_table t s f (form_answer t s f))) ≡ count_if p (feed_held (fed_with s room (form_answer t s f)) (held t))
    form_held (faulty a) i = rw (fault_never a i 23 (omega arith), fault_never a i 25 (omega arith))
    form_held (sound m) i = ap (count_if p) (remembered_same held last_held (rule_answer t s m) _ m) ∙ changed_held m i

    pub message_held_lem : count_if p (held (table_after t s room (answer_from2 t s room))) ≡ count_if p (feed_held (fed_with s room (answer_from2 t s room)) (held t))
    unfolding table_after
    message_held_lem = form_held (form_of (roster t) (last_of t) s room) (form_says (roster t) (last_of t) s room)

-- ---- the closings, and then the message

module _ (t : Table) (l : List Entry) (g : Agrees t l) (x : Input) where
  -- table and ledger agree after the closings
  pub found_agrees : Agrees (table_found t x) (dropped (fed t x).closings l)
  found_agrees = subst (λ (k : List Closing). Agrees (table_found t x) (dropped k l)) (sym (found_by t x).closings) (by (at_once (fed t x).answer))
    where
      none : dropped [] l ≡ l
      none = without_none (is_closed []) l (has_false (λ e. false) l (has_nothing (λ e. false) l (λ e. refl)))

      by : (b : Bool) → Agrees (cond b t (elapsed t x.time x.period)) (dropped (cond b [] (closings_of (raised t x.time) x.period)) l)
      by true = subst (Agrees t) (sym none) g
      by false = elapsed_agrees t l g x.time x.period

  found_same {ℓ} : {A : Type ℓ} (f : Table → A) → f (elapsed t x.time x.period) ≡ f t → f (table_found t x) ≡ f t
  found_same f h = by (at_once (fed t x).answer)
    where
      by : (b : Bool) → f (cond b t (elapsed t x.time x.period)) ≡ f t
      by true = refl
      by false = h

  pub found_roster : roster (table_found t x) ≡ roster t
  found_roster = found_same roster (elapsed_roster t x.time x.period)

  pub found_last : (sender : ℕ) → last_of (table_found t x) sender ≡ last_of t sender
  found_last sender = found_same (λ (u : Table). last_of u sender) (elapsed_last t x.time x.period sender)

  pub found_total : total_of (table_found t x) ≡ total_of t
  found_total = found_same total_of (ap total_for (elapsed_form t x.time x.period))

  pub found_held : held (table_found t x) ≡ held t
  found_held = found_same held (elapsed_held t x.time x.period (shape_sized t g.shape))

  pub answer_found : (fed t x).answer ≡ answer_from2 (table_found t x) x.message (length x.buffer)
  answer_found = answer_is t x g.rules

  abbrev pub entries_found : List Entry
  entries_found = dropped (fed t x).closings l

  -- table and ledger agree after every message
  pub step_agrees : Agrees (table_then t x) (feed (total_of t) (fed t x) (dropped (fed t x).closings l))
  step_agrees =
      subst (λ (u : Table). Agrees u (feed (total_of t) (fed t x) entries_found)) (sym (found_by t x).table)
      (after (table_found t x) (fed t x).answer entries_found answer_found found_total found_agrees)
    where
      after : (u : Table) (a : Answer) (k : List Entry) → a ≡ answer_from2 u x.message (length x.buffer) → total_of u ≡ total_of t → Agrees u k
          → Agrees (table_after u x.message (length x.buffer) a) (feed (total_of t) (fed_with x.message (length x.buffer) a) k)
      after u a k e n h =
          subst (λ (m : ℕ). Agrees (table_after u x.message (length x.buffer) a) (feed m (fed_with x.message (length x.buffer) a) k)) n
          (rw e (message_agrees u k h x.message x.bytes (length x.buffer)))

  pub step_roster : roster (table_then t x) ≡ roster t
  step_roster = ap roster (found_by t x).table ∙ after (table_found t x) (fed t x).answer entries_found answer_found found_agrees ∙ found_roster
    where
      after : (u : Table) (a : Answer) (k : List Entry) → a ≡ answer_from2 u x.message (length x.buffer) → Agrees u k → roster (table_after u x.message (length x.buffer) a) ≡ roster u
      after u a k e h = rw e (message_roster u k h x.message x.bytes (length x.buffer))

  pub step_opens : is 20 (fed t x).answer ≡ true → (a : ℕ)
      → calls_of (with_opened (total_of t) (dropped (fed t x).closings l) x.message) a ≡ bit (eqb (four_of x.message).sender a) + calls_of (dropped (fed t x).closings l) a
  step_opens = after (table_found t x) (fed t x).answer entries_found answer_found found_total found_agrees
    where
      after : (u : Table) (b : Answer) (k : List Entry) → b ≡ answer_from2 u x.message (length x.buffer) → total_of u ≡ total_of t → Agrees u k → is 20 b ≡ true → (a : ℕ)
          → calls_of (with_opened (total_of t) k x.message) a ≡ bit (eqb (four_of x.message).sender a) + calls_of k a
      after u b k e n h i a =
          subst (λ (m : ℕ). calls_of (with_opened m k x.message) a ≡ bit (eqb (four_of x.message).sender a) + calls_of k a) n
          (message_opens u k h x.message (length x.buffer) (rw e at i) a)

  pub step_closes : is 22 (fed t x).answer ≡ true → (0 < count_if (is_call (four_of x.message)) (dropped (fed t x).closings l)) × (count_if (is_under (four_of x.message)) (held t) ≡ 0)
  step_closes i = let c = after (table_found t x) (fed t x).answer entries_found answer_found found_agrees i in (c.0, sym (ap (count_if (is_under (four_of x.message))) found_held) ∙ c.1)
    where
      after : (u : Table) (b : Answer) (k : List Entry) → b ≡ answer_from2 u x.message (length x.buffer) → Agrees u k → is 22 b ≡ true
          → (0 < count_if (is_call (four_of x.message)) k) × (count_if (is_under (four_of x.message)) (held u) ≡ 0)
      after u b k e h i = message_closes u k h x.message (length x.buffer) (rw e at i)

  pub step_held : (p : Held → Bool) → count_if p (held (table_then t x)) ≡ count_if p (feed_held (fed t x) (held t))
  step_held p =
      ap (λ (u : Table). count_if p (held u)) (found_by t x).table
      ∙ after (table_found t x) (fed t x).answer entries_found answer_found found_agrees
      ∙ ap (λ (h : List Held). count_if p (feed_held (fed t x) h)) found_held
    where
      after : (u : Table) (a : Answer) (k : List Entry) → a ≡ answer_from2 u x.message (length x.buffer) → Agrees u k
          → count_if p (held (table_after u x.message (length x.buffer) a)) ≡ count_if p (feed_held (fed_with x.message (length x.buffer) a) (held u))
      after u a k e h = rw e (message_held_lem u k h x.message x.bytes (length x.buffer) p)
