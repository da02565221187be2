-- Calls that the node made: a setup without names is entered with the IDs that its reply carries, and its retry finds them.
-- Assumes nothing.
use Prim.Native.Nat.{ℕ, ◌≤◌, ◌<◌}
use native.Mathlib.Omega.{arith}
use mathlib.Core.Path.{◌≡◌, refl, sym, ap, subst, ◌∙◌}
use mathlib.Core.List.{List, [], ◌∷◌}
use mathlib.Core.Bool.{Bool, true, false, cond, not, ◌&&◌, true≢false}
use lib.Dec.{eqb}
use lib.ListN.{length}
use borrow.Author.Tests.{eqb-true}
use Rattle.lists.specs.Count.{bit, count_if, has}
use Rattle.lists.proofs.Tests.{both}
use Rattle.lists.proofs.Count.{has_true, true_has, count_le, count_split}
use Rattle.lists.proofs.Below.{count_element, count_at}
use Rattle.messages.specs.declared.message.CallRequest.{CallRequest}
use Rattle.messages.specs.declared.message.Message.TheVariants.{Open}
use Rattle.messages.specs.Status.{call_bit}
use Rattle.replies.specs.declared.notify.Notify.{Notify}
use Rattle.replies.specs.Messages.{notify_made_bytes}
use Rattle.table.specs.Table.{Table}
use Rattle.table.specs.Total.{slots, total_of}
use Rattle.table.specs.Word.{is_used}
use Rattle.table.specs.Lists.{roster, Ids, Entry, call_at, ids_of, entry_of, open_at, entries}
use Rattle.table.specs.Rules.{same_bytes, same_pair, same_short, same_long, same_request, rules_hold}
use Rattle.table.proofs.SameBytes.{same_bytes_lem}
use Rattle.spec_changes.specs.Calls.{New, entry_for, is_call, slot_of}
use Rattle.spec_changes.specs.Expiry.{elapsed}
use Rattle.spec_changes.proofs.Expired.{elapsed_own}
use Rattle.spec_changes.proofs.Alike.{self, short_self, long_self}
use Rattle.spec_changes.proofs.Slot.{found_slot}
use Rattle.spec_changes.proofs.Told.{rules_kept}
use Rattle.answers.specs.declared.answer.Answer.{Answer}
use Rattle.answers.specs.declared.answer.Answer.TheVariants.{CallAlreadyOpen}
use Rattle.answers.specs.Answers.{answer_number, is, sends_notify}
use Rattle.spec_changes.specs.Last.{last_of}
use Rattle.spec_calls.specs.Form.{sound, form_of}
use Rattle.spec_calls.specs.CallRules.{nameless, is_made_by, is_retry}
use Rattle.spec_calls.specs.Made.{made_for, new_for}
use Rattle.spec_calls.specs.Handling.{own_id, notify_for, answered_ids, reply_after}
use Rattle.spec_calls.proofs.Nameless.{made_retry, found_same}
use Rattle.spec_calls.proofs.MadeSame.{new_same}
use Rattle.spec_promises.specs.Ledger.{feed, lowest_slot, dropped}
use Rattle.spec_promises.specs.Promises.{Input, fed, at_once, table_found, Agrees}
use Rattle.spec_promises.specs.Claims.{is_made_with, RepliesWith, MadeEntered, MadeRetryIs21}
use Rattle.spec_promises.proofs.Formed.{Says, form_says}
use Rattle.spec_promises.proofs.Step.{found_agrees}
use Rattle.spec_promises.proofs.Named.{notified, found_sound, answered_21, retry_is_21}

-- ---- a call that has all four is the one with these IDs

call_ids : (c d : Ids) → same_short c d ≡ true → same_long c d ≡ true → d ≡ c
unfolding same_short same_long
call_ids c d h k =
    let a = both (same_pair c d) (eqb c.short d.short) h in
    let p = both (eqb c.endpoint d.endpoint) (eqb c.sender d.sender) a.0 in
    let b = both (same_pair c d) (same_bytes c.long d.long) k in
    fields (sym (eqb-true _ _ p.0)) (sym (eqb-true _ _ p.1)) (sym (eqb-true _ _ a.1)) (sym (same_bytes_lem c.long d.long b.1))
  where
    fields : d.endpoint ≡ c.endpoint → d.sender ≡ c.sender → d.short ≡ c.short → d.long ≡ c.long
        → ◌≡◌ {A = Ids} (record { endpoint = d.endpoint; sender = d.sender; short = d.short; long = d.long }) (record { endpoint = c.endpoint; sender = c.sender; short = c.short; long = c.long })
    fields p q r s = rw (p, q, r, s)

-- ---- the call found is the only one

module _ (t : Table) (q : CallRequest) (rules : rules_hold t ≡ true) where
  -- no two calls are made for one pair and two numbers
  made_once : count_if (is_made_by q) (entries t) ≤ 1
  unfolding same_request
  made_once = (rules_kept t rules).calls.requests (entry_for 0 (record { ids = made_for (entries t) q.endpoint q.sender; made = true; request = q.sequence }))

  found_is : (c : Ids) → 0 < count_if (is_made_with q c) (entries t) → ids_of (call_at t (slot_of t (is_made_by q))) ≡ c
  found_is c h = by (is_call c e) refl
    where
      k : ℕ
      k = slot_of t (is_made_by q)

      e : Entry
      e = entry_of k (call_at t k)

      some : 0 < count_if (is_made_by q) (entries t)
      some = omega (arith, h, count_le (is_made_with q c) (is_made_by q) (entries t) (λ x m. (both (is_made_by q x) (is_call c x) m).0))

      f : (k < slots) × (is_used t.occupied k ≡ true) × (is_made_by q e ≡ true)
      f = found_slot t (is_made_by q) some

      -- calls that were made for it and have other IDs
      others : Entry → Bool
      others x = not (is_call c x) && is_made_by q x

      swapped : (a b : Bool) → (a && b) ≡ true → (b && a) ≡ true
      swapped true true m = refl
      swapped true false m = m
      swapped false b m = cc

      by : (b : Bool) → is_call c e ≡ b → ids_of (call_at t k) ≡ c
      by true m = let n = both (same_short c e.ids) (same_long c e.ids) m in call_ids c e.ids n.0 n.1
      by false m =
          let here : bit (is_used t.occupied k && others e) ≡ 1 = rw (f.1, m, f.2) in
          let z : ⊥ = omega (
            arith,
            made_once,
            count_split (is_made_by q) (is_call c) (entries t),
            count_le (is_made_with q c) (λ x. is_call c x && is_made_by q x) (entries t) (λ x n. swapped (is_made_by q x) (is_call c x) n),
            h,
            count_at (open_at t) others k slots f.0,
            count_element others (is_used t.occupied k) e,
            here,
          ) in
          absurd z

-- ---- the reply carries the IDs that are answered

-- 20 sends a Notify, and is not 34
opened_sends : (a : Answer) → is 20 a ≡ true → (sends_notify a ≡ true) × (is 34 a ≡ false)
opened_sends a h = (by (sends_notify a) refl, rw (eqb-true (answer_number a) 20 h))
  where
    by : (b : Bool) → sends_notify a ≡ b → sends_notify a ≡ true
    by true e = e
    by false e = absurd (true≢false (sym h ∙ (notified a e).0))

carried : (u : Table) (x : Input) (q : CallRequest) (a : Answer) → form_of (roster u) (last_of u) x.message (length x.buffer) ≡ sound (Open q) → nameless q ≡ true
    → sends_notify a ≡ true → is 34 a ≡ false
    → reply_after u x.message (length x.buffer) a
    ≡ notify_made_bytes x.message (notify_for u.address (own_id u) q call_bit a) (answered_ids u x.message q a).short (answered_ids u x.message q a).long
unfolding reply_after
carried u x q a e n sends other = rw (e, sends, n, other)

-- what the node says of itself is the same before the closings and after
own_same : (t : Table) (x : Input) (q : CallRequest) (a : Answer) (b : Bool)
    → notify_for (cond b t (elapsed t x.time x.period)).address (own_id (cond b t (elapsed t x.time x.period))) q call_bit a ≡ notify_for t.address (own_id t) q call_bit a
own_same t x q a true = refl
own_same t x q a false = rw ((elapsed_own t x.time x.period).0, (elapsed_own t x.time x.period).1, (elapsed_own t x.time x.period).2)

replies_with : (t : Table) (l : List Entry) (g : Agrees t l) (x : Input) (q : CallRequest) (c : Ids) → form_of (roster t) (last_of t) x.message (length x.buffer) ≡ sound (Open q) → nameless q ≡ true
    → sends_notify (fed t x).answer ≡ true → is 34 (fed t x).answer ≡ false → answered_ids (table_found t x) x.message q (fed t x).answer ≡ c → RepliesWith t x q c
replies_with t l g x q c e n sends other same =
    carried (table_found t x) x q (fed t x).answer (found_sound t l g x q e) n sends other
    ∙ ap (λ (d : Ids). notify_made_bytes x.message (notify_for (table_found t x).address (own_id (table_found t x)) q call_bit (fed t x).answer) d.short d.long) same
    ∙ ap (λ (m : Notify). notify_made_bytes x.message m c.short c.long) (own_same t x q (fed t x).answer (at_once (fed t x).answer))

pub made_retry_is_21 : MadeRetryIs21
made_retry_is_21 t l g x q c e n h = (ap answer_number a, replies_with t l g x q c e n (rw a) (rw a) same, (retry_is_21 t l g x q e known).1)
  where
    s : List ℕ
    s = x.message

    k : List Entry
    k = dropped (fed t x).closings l

    u : Table
    u = table_found t x

    count : 0 < count_if (is_made_with q c) (entries u)
    count = rw ((found_agrees t l g x).calls (is_made_with q c)) (has_true (is_made_with q c) k h)

    some : 0 < count_if (is_made_by q) k
    some = omega (arith, has_true (is_made_with q c) k h, count_le (is_made_with q c) (is_made_by q) k (λ y m. (both (is_made_by q y) (is_call c y) m).0))

    known : is_retry k s q ≡ true
    known = made_retry q n k s ∙ true_has (is_made_by q) k some

    a : (fed t x).answer ≡ CallAlreadyOpen
    a = answered_21 t l g x q e known

    same : answered_ids u s q (fed t x).answer ≡ c
    same = again u (fed t x).answer a (found_is u q (found_agrees t l g x).rules c count)
      where
        again : (u : Table) (a : Answer) → a ≡ CallAlreadyOpen → ids_of (call_at u (slot_of u (is_made_by q))) ≡ c → answered_ids u s q a ≡ c
        again u a e i = rw (e, found_same q n u s) i

-- ---- 20 enters it

entered : (k : ℕ) (l : List Entry) (s : List ℕ) (q : CallRequest) → nameless q ≡ true → is_made_with q (new_for l s q).ids (entry_for k (new_for l s q)) ≡ true
entered k l s q n =
    let c = made_for l q.endpoint q.sender in
    rw (n, self q.endpoint, self q.sender, self q.sequence.epoch, self q.sequence.identifier, short_self c, long_self c)

pub made_entered : MadeEntered
made_entered t l g x q e n h = ((new_for (entries u) s q).ids, entry, replies_with t l g x q (new_for (entries u) s q).ids e n sends.0 sends.1 same)
  where
    s : List ℕ
    s = x.message

    k : List Entry
    k = dropped (fed t x).closings l

    u : Table
    u = table_found t x

    i : Says (roster t) s (sound (Open q))
    i = rw e at (form_says (roster t) (last_of t) s (length x.buffer))

    sends : (sends_notify (fed t x).answer ≡ true) × (is 34 (fed t x).answer ≡ false)
    sends = opened_sends (fed t x).answer h

    same : answered_ids u s q (fed t x).answer ≡ (new_for (entries u) s q).ids
    same = first u (fed t x).answer h
      where
        first : (u : Table) (a : Answer) → is 20 a ≡ true → answered_ids u s q a ≡ (new_for (entries u) s q).ids
        first u a e = rw e

    entry : has (is_made_with q (new_for (entries u) s q).ids) (feed (total_of t) (fed t x) k) ≡ true
    entry = by (fed t x).answer (entries u) k h (found_agrees t l g x).calls
      where
        by : (a : Answer) (m k : List Entry) → is 20 a ≡ true → ((p : Entry → Bool) → count_if p m ≡ count_if p k)
            → has (is_made_with q (new_for m s q).ids) (feed (total_of t) (record { message = s; room = 0; time = 0; period = 0; answer = a; closings = [] }) k) ≡ true
        by a m k h c =
            subst (λ (w : New). has (is_made_with q w.ids) (feed (total_of t) (record { message = s; room = 0; time = 0; period = 0; answer = a; closings = [] }) k) ≡ true) (sym (new_same m k c s q))
            (rw (h, i.opened (total_of t) k) (true_has (is_made_with q (new_for k s q).ids) (entry_for (lowest_slot k (total_of t)) (new_for k s q) ∷ k) (omega (arith, ap bit (entered (lowest_slot k (total_of t)) k s q n)))))
