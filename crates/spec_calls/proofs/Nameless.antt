-- The tests, the call and the reply of an open with names, and of one without.
-- Assumes nothing.
use Prim.Native.Nat.{ℕ}
use mathlib.Core.Path.{◌≡◌, ap}
use mathlib.Core.List.{List}
use mathlib.Core.Bool.{true, false, cond}
use Rattle.lists.specs.Count.{has}
use Rattle.messages.specs.declared.message.CallRequest.{CallRequest}
use Rattle.messages.specs.Status.{call_bit}
use Rattle.replies.specs.Messages.{notify_bytes, notify_made_bytes}
use Rattle.table.specs.Table.{Table}
use Rattle.table.specs.Lists.{Entry, call_at, ids_of, entries}
use Rattle.spec_changes.specs.Calls.{is_call, slot_of}
use Rattle.answers.specs.declared.answer.Answer.{Answer}
use Rattle.answers.specs.declared.answer.Answer.TheVariants.{CallOpened, CallAlreadyOpen, NoShare}
use Rattle.spec_calls.specs.CallRules.{ids_in, nameless, is_made_by, is_named_by, is_open, short_in_use, long_in_use, is_retry, short_taken, long_taken}
use Rattle.spec_calls.specs.Made.{made_for, new_for}
use Rattle.spec_calls.specs.Handling.{own_id, notify_for, open_reply}

module _ (q : CallRequest) (n : nameless q ≡ false) where
  pub named_retry : (l : List Entry) (s : List ℕ) → is_retry l s q ≡ is_open l (ids_in s q)
  named_retry l s = ap (λ b. has (λ e. cond b (is_made_by q e) (is_call (ids_in s q) e)) l) n

  pub named_slot : (t : Table) (s : List ℕ) → slot_of t (is_named_by s q) ≡ slot_of t (is_call (ids_in s q))
  named_slot t s = ap (λ b. slot_of t (λ e. cond b (is_made_by q e) (is_call (ids_in s q) e))) n

  pub named_long : (l : List Entry) (s : List ℕ) → long_taken l s q ≡ long_in_use l (ids_in s q)
  named_long l s = rw n

  pub named_short : (l : List Entry) (s : List ℕ) → short_taken l s q ≡ short_in_use l (ids_in s q)
  named_short l s = rw n

  pub named_new : (l : List Entry) (s : List ℕ) → new_for l s q ≡ record { ids = ids_in s q; made = false; request = record { epoch = 0; identifier = 0 } }
  named_new l s = rw n

  pub named_reply : (t : Table) (s : List ℕ) (a : Answer) → open_reply t s q a ≡ notify_bytes s (notify_for t.address (own_id t) q call_bit a)
  named_reply t s a = rw n

module _ (q : CallRequest) (n : nameless q ≡ true) where
  pub made_retry : (l : List Entry) (s : List ℕ) → is_retry l s q ≡ has (is_made_by q) l
  made_retry l s = ap (λ b. has (λ e. cond b (is_made_by q e) (is_call (ids_in s q) e)) l) n

  pub made_long : (l : List Entry) (s : List ℕ) → long_taken l s q ≡ false
  made_long l s = rw n

  pub made_short_lem : (l : List Entry) (s : List ℕ) → short_taken l s q ≡ false
  made_short_lem l s = rw n

  pub made_new_call : (l : List Entry) (s : List ℕ) → new_for l s q ≡ record { ids = made_for l q.endpoint q.sender; made = true; request = q.sequence }
  made_new_call l s = rw n

  -- 20 carries what was made, 21 what the table holds, 34 what was received
  pub reply_20 : (t : Table) (s : List ℕ)
      → open_reply t s q CallOpened
      ≡ notify_made_bytes s (notify_for t.address (own_id t) q call_bit CallOpened) (made_for (entries t) q.endpoint q.sender).short (made_for (entries t) q.endpoint q.sender).long
  reply_20 t s = rw n

  pub found_same : (t : Table) (s : List ℕ) → slot_of t (is_named_by s q) ≡ slot_of t (is_made_by q)
  found_same t s = ap (λ b. slot_of t (λ e. cond b (is_made_by q e) (is_call (ids_in s q) e))) n

  pub reply_21 : (t : Table) (s : List ℕ)
      → open_reply t s q CallAlreadyOpen
      ≡ notify_made_bytes s (notify_for t.address (own_id t) q call_bit CallAlreadyOpen) (ids_of (call_at t (slot_of t (is_made_by q)))).short (ids_of (call_at t (slot_of t (is_made_by q)))).long
  reply_21 t s = rw (found_same t s, n)

  pub reply_34 : (t : Table) (s : List ℕ) → open_reply t s q NoShare ≡ notify_bytes s (notify_for t.address (own_id t) q call_bit NoShare)
  reply_34 t s = rw n
