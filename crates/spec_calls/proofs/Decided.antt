-- What each answer says of the tests before it.
-- Assumes nothing.
use Prim.Native.Nat.{ℕ, ◌≤◌, ◌<◌}
use native.Mathlib.Omega.{arith}
use mathlib.Core.Path.{◌≡◌, refl}
use mathlib.Core.Logic.{◌⊎◌, inl, inr, ◌≢◌}
use mathlib.Core.List.{List}
use mathlib.Core.Bool.{Bool, true, false, cond, not, ◌&&◌, ◌||◌, or-true}
use lib.Dec.{leb, eqb}
use borrow.Author.Tests.{eqb-true, eqb-false, eq-eqb, ne_eqb, leb-true, leb-false, le-leb, not-false}
use Rattle.lists.specs.Count.{count_if, has}
use Rattle.lists.proofs.Count.{has_true, has_false}
use Rattle.objects.specs.declared.fields.CallId.{CallId}
use Rattle.messages.specs.declared.message.CallRequest.{CallRequest}
use Rattle.messages.specs.declared.message.Connection.{Connection}
use Rattle.messages.specs.declared.message.Message.TheVariants.{Drop}
use Rattle.table.specs.Table.{Table}
use Rattle.table.specs.Lists.{Terms, Ids, Entry, Lsp, Held}
use Rattle.table.specs.Share.{guarantee_of, limit_of, from, calls_of, S}
use Rattle.table.specs.Rules.{same_short, same_long, is_lsp, same_connection}
use Rattle.spec_changes.specs.Calls.{is_call}
use Rattle.spec_changes.specs.Connections.{same_four, is_call_of, is_under, call_missing}
use Rattle.spec_changes.proofs.Share.{S-same}
use Rattle.answers.specs.declared.answer.Answer.{Answer}
use Rattle.answers.specs.declared.answer.Answer.TheVariants.{UnderOtherCall, NotHeld, CallOpened, CallAlreadyOpen, CallClosed, ConnectionAdded, ConnectionAlreadyHeld, ConnectionRemoved, CallIdContention, DuplicateCall, ConnectionsStillExist, UnknownCall, NoShare, PathUnknownCall, NoPlaceLeft}
use Rattle.answers.specs.Answers.{is}
use Rattle.spec_calls.specs.CallRules.{ids_in, is_named_by, is_open, is_retry, short_taken, long_taken, share_used_up, open_answer, close_answer}
use Rattle.spec_calls.specs.PathRules.{under_other, add_answer, drop_answer}
use Rattle.spec_calls.specs.Handling.{rule_answer}

-- ---- when an answer is given (01, Every answer and Share)

-- 34 at the limit, and at the guarantee where S is the total
pub share_at_limit : (total : ℕ) (r : List Terms) (l : List Entry) (a : ℕ) → calls_of l a ≡ limit_of r a → share_used_up total r l a ≡ true
unfolding share_used_up
share_at_limit total r l a h = rw (eq-eqb (calls_of l a) (limit_of r a) h)

pub share_no_room : (total : ℕ) (r : List Terms) (l : List Entry) (a : ℕ) → guarantee_of r a ≤ calls_of l a → S r l ≡ total → share_used_up total r l a ≡ true
unfolding share_used_up
share_no_room total r l a g h = rw (le-leb (guarantee_of r a) (calls_of l a) g, eq-eqb (S r l) total h) (or-true (eqb (calls_of l a) (limit_of r a)))

module _ (total : ℕ) (r : List Terms) (l : List Entry) (s : List ℕ) (q : CallRequest) where
  -- 21: its call is open
  pub open_again : is_retry l s q ≡ true → open_answer total r l s q ≡ CallAlreadyOpen
  unfolding open_answer
  open_again h = rw h

  -- 31 comes before 30
  pub open_duplicate : is_retry l s q ≡ false → long_taken l s q ≡ true → open_answer total r l s q ≡ DuplicateCall
  unfolding open_answer
  open_duplicate h k = rw (h, k)

  pub open_contention : is_retry l s q ≡ false → long_taken l s q ≡ false → short_taken l s q ≡ true → open_answer total r l s q ≡ CallIdContention
  unfolding open_answer
  open_contention h k m = rw (h, k, m)

  pub open_no_share : is_retry l s q ≡ false → long_taken l s q ≡ false → short_taken l s q ≡ false → share_used_up total r l q.sender ≡ true
      → open_answer total r l s q ≡ NoShare
  unfolding open_answer
  open_no_share h k m n = rw (h, k, m, n)

  pub open_new : is_retry l s q ≡ false → long_taken l s q ≡ false → short_taken l s q ≡ false → share_used_up total r l q.sender ≡ false
      → open_answer total r l s q ≡ CallOpened
  unfolding open_answer
  open_new h k m n = rw (h, k, m, n)

module _ (l : List Entry) (h : List Held) (c : Ids) where
  pub close_unknown : is_open l c ≡ false → close_answer l h c ≡ UnknownCall
  unfolding close_answer
  close_unknown p = rw p

  pub close_busy : is_open l c ≡ true → has (is_under c) h ≡ true → close_answer l h c ≡ ConnectionsStillExist
  unfolding close_answer
  close_busy p q = rw (p, q)

  pub close_idle : is_open l c ≡ true → has (is_under c) h ≡ false → close_answer l h c ≡ CallClosed
  unfolding close_answer
  close_idle p q = rw (p, q)

module _ (l : List Entry) (h : List Held) (x : Held) where
  pub add_elsewhere : has (under_other x) h ≡ true → add_answer l h x ≡ UnderOtherCall
  unfolding add_answer
  add_elsewhere p = rw p

  -- 24: a connection held under the Call ID that the Path names
  pub add_again : has (under_other x) h ≡ false → has (same_connection x) h ≡ true → add_answer l h x ≡ ConnectionAlreadyHeld
  unfolding add_answer
  add_again p q = rw (p, q)

  pub add_unknown : has (under_other x) h ≡ false → has (same_connection x) h ≡ false → call_missing l x ≡ true → add_answer l h x ≡ PathUnknownCall
  unfolding add_answer
  add_unknown p q m = rw (p, q, m)

  pub add_full : has (under_other x) h ≡ false → has (same_connection x) h ≡ false → call_missing l x ≡ false → leb 4 (count_if (same_four x) h) ≡ true → add_answer l h x ≡ NoPlaceLeft
  unfolding add_answer
  add_full p q m n = rw (p, q, m, n)

  pub add_new : has (under_other x) h ≡ false → has (same_connection x) h ≡ false → call_missing l x ≡ false → leb 4 (count_if (same_four x) h) ≡ false → add_answer l h x ≡ ConnectionAdded
  unfolding add_answer
  add_new p q m n = rw (p, q, m, n)

module _ (h : List Held) (x : Lsp) where
  pub drop_held : has (is_lsp x) h ≡ true → drop_answer h x ≡ ConnectionRemoved
  unfolding drop_answer
  drop_held p = rw p

  pub drop_not_held : has (is_lsp x) h ≡ false → drop_answer h x ≡ NotHeld
  unfolding drop_answer
  drop_not_held p = rw p

-- 15 and 25: a PathTear's Call ID is not looked at
pub drop_whatever_call : (t : Table) (s : List ℕ) (c : Connection) (other : CallId)
    → rule_answer t s (Drop c) ≡ rule_answer t s (Drop (record { call = other; lsp = c.lsp; session = c.session; template = c.template }))
drop_whatever_call t s c other = refl

-- ---- open: by its four tests

abbrev pub open_by : Bool → Bool → Bool → Bool → Answer
open_by known long short share = cond known CallAlreadyOpen (cond long DuplicateCall (cond short CallIdContention (cond share NoShare CallOpened)))

opens : (a b c d : Bool) → is 20 (open_by a b c d) ≡ true → (a ≡ false) × (b ≡ false) × (c ≡ false) × (d ≡ false)
opens true b c d h = (cc, cc, cc, cc)
opens false true c d h = (cc, cc, cc, cc)
opens false false true d h = (cc, cc, cc, cc)
opens false false false true h = (cc, cc, cc, cc)
opens false false false false h = (refl, refl, refl, refl)

never_open : (n : ℕ) → is n CallAlreadyOpen ≡ false → is n DuplicateCall ≡ false → is n CallIdContention ≡ false → is n NoShare ≡ false → is n CallOpened ≡ false
    → (a b c d : Bool) → is n (open_by a b c d) ≡ false
never_open n f1 f2 f3 f4 f5 true b c d = f1
never_open n f1 f2 f3 f4 f5 false true c d = f2
never_open n f1 f2 f3 f4 f5 false false true d = f3
never_open n f1 f2 f3 f4 f5 false false false true = f4
never_open n f1 f2 f3 f4 f5 false false false false = f5

-- what the share test says, either way
unfoldable pub ShareSays : Bool → ℕ → List Terms → List Entry → ℕ → Type 0
ShareSays true total r l a = (calls_of l a ≡ limit_of r a) ⊎ ((guarantee_of r a ≤ calls_of l a) × (S r l ≡ total))
ShareSays false total r l a = (calls_of l a ≢ limit_of r a) × ((calls_of l a < guarantee_of r a) ⊎ (S r l ≢ total))

pub share_says : (total : ℕ) (r : List Terms) (l : List Entry) (a : ℕ) (b : Bool) → share_used_up total r l a ≡ b → ShareSays b total r l a
unfolding share_used_up ShareSays
share_says total r l a b h =
    by (eqb (calls_of l a) (limit_of r a)) (leb (guarantee_of r a) (calls_of l a)) (eqb (S r l) total) b refl refl refl h
  where
    by : (x y z b : Bool) → eqb (calls_of l a) (limit_of r a) ≡ x → leb (guarantee_of r a) (calls_of l a) ≡ y
        → eqb (S r l) total ≡ z → (x || (y && z)) ≡ b → ShareSays b total r l a
    by true y z true p q s h = inl (eqb-true _ _ p)
    by true y z false p q s h = let n : ◌≡◌ {A = ℕ} 0 1 = cc in (omega arith, inl (omega arith))
    by false true true true p q s h = inr (leb-true _ _ q, eqb-true _ _ s)
    by false true true false p q s h = let n : ◌≡◌ {A = ℕ} 0 1 = cc in (omega arith, inl (omega arith))
    by false true false true p q s h = let n : ◌≡◌ {A = ℕ} 0 1 = cc in inl (omega arith)
    by false true false false p q s h = (eqb-false _ _ p, inr (eqb-false _ _ s))
    by false false z true p q s h = let n : ◌≡◌ {A = ℕ} 0 1 = cc in inl (omega arith)
    by false false z false p q s h = (eqb-false _ _ p, inl (leb-false _ _ q))

module _ (total : ℕ) (r : List Terms) (l : List Entry) (s : List ℕ) (q : CallRequest) where
  -- what 20 says of the tests before it
  pub open_says : is 20 (open_answer total r l s q) ≡ true
      → (is_retry l s q ≡ false) × (long_taken l s q ≡ false) × (short_taken l s q ≡ false) × (share_used_up total r l q.sender ≡ false)
  unfolding open_answer
  open_says h = opens (is_retry l s q) (long_taken l s q) (short_taken l s q) (share_used_up total r l q.sender) h

  -- a number that is none of an open's answers
  -- 21 is given to a retry alone
  pub again_says : is 21 (open_answer total r l s q) ≡ true → is_retry l s q ≡ true
  unfolding open_answer
  again_says = by (is_retry l s q) (long_taken l s q) (short_taken l s q) (share_used_up total r l q.sender)
    where
      by : (x y z w : Bool) → is 21 (open_by x y z w) ≡ true → x ≡ true
      by true y z w h = refl
      by false true z w h = cc
      by false false true w h = cc
      by false false false true h = cc
      by false false false false h = cc

  pub open_never : (n : ℕ) → is n CallAlreadyOpen ≡ false → is n DuplicateCall ≡ false → is n CallIdContention ≡ false → is n NoShare ≡ false → is n CallOpened ≡ false
      → is n (open_answer total r l s q) ≡ false
  unfolding open_answer
  open_never n f1 f2 f3 f4 f5 = never_open n f1 f2 f3 f4 f5 (is_retry l s q) (long_taken l s q) (short_taken l s q) (share_used_up total r l q.sender)

-- the answer to an open goes by the counts alone
pub open_same : (total : ℕ) (r : List Terms) (l k : List Entry) (s : List ℕ) (q : CallRequest) → ((p : Entry → Bool) → count_if p l ≡ count_if p k)
    → open_answer total r l s q ≡ open_answer total r k s q
unfolding open_answer share_used_up
open_same total r l k s q h =
    rw (h (is_named_by s q), h (λ e. same_long (ids_in s q) e.ids), h (λ e. same_short (ids_in s q) e.ids), h (from q.sender), S-same r l k h)

-- ---- close

abbrev close_by : Bool → Bool → Answer
close_by known busy = cond (not known) UnknownCall (cond busy ConnectionsStillExist CallClosed)

closes : (a b : Bool) → is 22 (close_by a b) ≡ true → (a ≡ true) × (b ≡ false)
closes true true h = (cc, cc)
closes true false h = (refl, refl)
closes false b h = (cc, cc)

never_close : (n : ℕ) → is n UnknownCall ≡ false → is n ConnectionsStillExist ≡ false → is n CallClosed ≡ false → (a b : Bool) → is n (close_by a b) ≡ false
never_close n f1 f2 f3 true true = f2
never_close n f1 f2 f3 true false = f3
never_close n f1 f2 f3 false b = f1

module _ (l : List Entry) (h : List Held) (c : Ids) where
  -- 22 is given only for an open call with no connections
  pub may_close : is 22 (close_answer l h c) ≡ true → (0 < count_if (is_call c) l) × (count_if (is_under c) h ≡ 0)
  unfolding close_answer
  may_close e =
      let k = closes (is_open l c) (has (is_under c) h) e in
      (has_true _ l k.0, has_false _ h k.1)

  pub close_never : (n : ℕ) → is n UnknownCall ≡ false → is n ConnectionsStillExist ≡ false → is n CallClosed ≡ false → is n (close_answer l h c) ≡ false
  unfolding close_answer
  close_never n f1 f2 f3 = never_close n f1 f2 f3 (is_open l c) (has (is_under c) h)

-- ---- Path and PathTear

abbrev add_by : Bool → Bool → Bool → Bool → Answer
add_by other here unknown full =
    cond other UnderOtherCall (cond here ConnectionAlreadyHeld (cond unknown PathUnknownCall (cond full NoPlaceLeft ConnectionAdded)))

adds : (a b c d : Bool) → is 23 (add_by a b c d) ≡ true → (b ≡ false) × (c ≡ false) × (d ≡ false)
adds true b c d h = (cc, cc, cc)
adds false true c d h = (cc, cc, cc)
adds false false true d h = (cc, cc, cc)
adds false false false true h = (cc, cc, cc)
adds false false false false h = (refl, refl, refl)

never_add : (n : ℕ) → is n UnderOtherCall ≡ false → is n ConnectionAlreadyHeld ≡ false → is n PathUnknownCall ≡ false → is n NoPlaceLeft ≡ false → is n ConnectionAdded ≡ false
    → (a b c d : Bool) → is n (add_by a b c d) ≡ false
never_add n f1 f2 f3 f4 f5 true b c d = f1
never_add n f1 f2 f3 f4 f5 false true c d = f2
never_add n f1 f2 f3 f4 f5 false false true d = f3
never_add n f1 f2 f3 f4 f5 false false false true = f4
never_add n f1 f2 f3 f4 f5 false false false false = f5

module _ (l : List Entry) (h : List Held) (x : Held) where
  -- 23 is given only where the connection is new, its call is open and one of its four places is free
  pub may_add : is 23 (add_answer l h x) ≡ true
      → (count_if (same_connection x) h ≡ 0) × ((x.call ≡ 0 → ⊥) → 0 < count_if (is_call_of x) l) × (count_if (same_four x) h < 4)
  unfolding add_answer
  may_add e =
      let k = adds (has (under_other x) h) (has (same_connection x) h) (call_missing l x) (leb 4 (count_if (same_four x) h)) e in
      (has_false _ h k.0, (λ n. has_true _ l (known (ne_eqb _ _ n) k.1)), leb-false _ _ k.2)
    where
      known : eqb x.call 0 ≡ false → call_missing l x ≡ false → has (is_call_of x) l ≡ true
      known z e = not-false _ (rw z at e)

  pub add_never : (n : ℕ) → is n UnderOtherCall ≡ false → is n ConnectionAlreadyHeld ≡ false → is n PathUnknownCall ≡ false → is n NoPlaceLeft ≡ false
      → is n ConnectionAdded ≡ false → is n (add_answer l h x) ≡ false
  unfolding add_answer
  add_never n f1 f2 f3 f4 f5 =
      never_add n f1 f2 f3 f4 f5 (has (under_other x) h) (has (same_connection x) h) (call_missing l x) (leb 4 (count_if (same_four x) h))

module _ (h : List Held) (x : Lsp) where
  -- 25 is given only for a connection that is held
  pub may_drop : is 25 (drop_answer h x) ≡ true → 0 < count_if (is_lsp x) h
  unfolding drop_answer
  may_drop e = has_true _ h (by (has (is_lsp x) h) e)
    where
      by : (b : Bool) → is 25 (cond b ConnectionRemoved NotHeld) ≡ true → b ≡ true
      by true e = refl
      by false e = e

  pub drop_never : (n : ℕ) → is n ConnectionRemoved ≡ false → is n NotHeld ≡ false → is n (drop_answer h x) ≡ false
  unfolding drop_answer
  drop_never n f1 f2 = by (has (is_lsp x) h)
    where
      by : (b : Bool) → is n (cond b ConnectionRemoved NotHeld) ≡ false
      by true = f1
      by false = f2
