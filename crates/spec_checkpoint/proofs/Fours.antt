-- Of every table that keeps the rules, as counts of its connections: the fours hold, every sender is listed, and the IDs
-- are such as a place may have.
-- Assumes nothing.
use Prim.Native.Nat.{ℕ, zero, suc, ◌*◌, ◌≤◌, ◌<◌}
use native.Mathlib.Omega.{arith}
use mathlib.Core.Path.{◌≡◌, refl, sym, ◌∙◌}
use mathlib.Core.List.{List, []}
use mathlib.Core.Bool.{Bool, true, false, not, ◌&&◌, ◌||◌, and-true, and-false}
use lib.Dec.{ltb, eqb}
use borrow.Author.Tests.{eq-eqb, ne_eqb, eqb-true, eqb-false}
use Rattle.lists.specs.Count.{bit, count_if}
use Rattle.lists.specs.Below.{element_if, list_if, below}
use Rattle.lists.proofs.Count.{count_ext, count_append, true_has, one_bit, no_bit}
use Rattle.lists.proofs.Tests.{both}
use Rattle.lists.proofs.Below.{count_element, count_list_if, count_below_lem, count_none, count_at, every_at}
use Rattle.table.specs.Table.{Call, Table}
use Rattle.table.specs.Total.{slots}
use Rattle.table.specs.Word.{is_used}
use Rattle.table.specs.Lists.{customer_at, terms_of, listed_at, roster, Ids, Entry, entry_of, call_at, open_at, entries, Held, Four, call_four, customer_four, place_at, is_taken, connection_at, held_place, held_in, held_at, standalone_at, held}
use Rattle.table.specs.Share.{is_at, is_listed}
use Rattle.table.specs.Rules.{unlisted, same_short, place_valid, four_valid, request_tidy, call_free_clear, kept_tidy, customer_free_clear}
use Rattle.spec_changes.specs.Connections.{same_four, place_for, is_call_of}
use Rattle.spec_changes.proofs.Valid.{ids_named}
use Rattle.spec_changes.proofs.Kept.{Kept}
use Rattle.spec_changes.proofs.Everywhere.{none_in, none_under, none_standalone, none_held}
use Rattle.spec_changes.proofs.Told.{roster_kept}

-- ---- rows of four, of which a test picks at most one

-- a four has at most four that pass, and none where none of its connections does
pub at_most : (q : Held → Bool) (f : Four) (b : Bool) → (b ≡ false → (j : ℕ) → q (connection_at f j) ≡ false) → count_if q (held_in f) ≤ 4 * bit b
at_most q f true h =
    omega (arith, count_below_lem (held_place f) q 0, count_below_lem (held_place f) q 1, count_below_lem (held_place f) q 2, count_below_lem (held_place f) q 3, count_none (held_place f) q, one 0, one 1, one 2, one 3)
  where
    one : (j : ℕ) → count_if q (held_place f j) ≤ 1
    one j = rw (count_element q (is_taken (place_at f j)) (connection_at f j)) (one_bit (is_taken (place_at f j) && q (connection_at f j)))
at_most q f false h = omega (arith, none_in q f (λ j _ _. h refl j))

-- what the rows have is four times what the test picks, at most
module _ {ℓ ℓ'} {A : Type ℓ} {B : Type ℓ'} (q : A → Bool) (h : B → Bool) (u : ℕ → Bool) (l : ℕ → List A) (y : ℕ → B) where
  pub rows_bound : (n : ℕ) → ((i : ℕ) → i < n → u i ≡ true → count_if q (l i) ≤ 4 * bit (h (y i)))
      → count_if q (below (λ i. list_if (u i) (l i)) n) ≤ 4 * count_if h (below (λ i. element_if (u i) (y i)) n)
  rows_bound zero f = omega (arith, count_none (λ i. list_if (u i) (l i)) q)
  rows_bound (suc n) f =
      omega (
        arith,
        rows_bound n (λ i b. f i (omega arith)),
        count_below_lem (λ i. list_if (u i) (l i)) q n,
        count_below_lem (λ i. element_if (u i) (y i)) h n,
        by (u n) refl,
      )
    where
      by : (b : Bool) → u n ≡ b → count_if q (list_if (u n) (l n)) ≤ 4 * count_if h (element_if (u n) (y n))
      by true e = rw (count_list_if q (u n) (l n), count_element h (u n) (y n), e) (f n (omega arith) e)
      by false e = rw (count_list_if q (u n) (l n), e) (omega arith)

-- ---- the fours

module _ (t : Table) (k : Kept t) (x : Held) where
  -- the call of a connection is one at most
  pub one_call : count_if (is_call_of x) (entries t) ≤ 1
  unfolding same_short
  one_call =
      let c : Ids = record { endpoint = x.lsp.endpoint; sender = x.lsp.sender; short = x.call; long = [] } in
      omega (arith, count_ext (is_call_of x) (λ e. same_short c e.ids) (entries t) (λ e. by (eqb x.call e.ids.short) (eqb x.lsp.endpoint e.ids.endpoint) _), k.calls.shorts c)
    where
      by : (a b c : Bool) → (a && b && c) ≡ (b && c && a)
      by true true true = refl
      by true true false = refl
      by true false c = refl
      by false true true = refl
      by false true false = refl
      by false false c = refl

  -- under another call none counts among its four
  pub elsewhere : (x.call ≡ 0 → ⊥) → (c : Call) → is_call_of x (entry_of 0 c) ≡ false → (j : ℕ) → same_four x (connection_at (call_four c) j) ≡ false
  elsewhere n c e j = rw (ne_eqb x.call 0 n) (not_own (eqb x.call c.id) (eqb x.lsp.sender c.sender) (eqb x.lsp.endpoint c.endpoint) e)
    where
      not_own : (a b d : Bool) → (a && d && b) ≡ false → (a && b && (false || d)) ≡ false
      not_own true true d e = sym (and-true d) ∙ e
      not_own true false d e = refl
      not_own false b d e = refl

  -- under calls: those of one call where the Call ID is not 0, none where it is
  under_some : (x.call ≡ 0 → ⊥) → count_if (same_four x) (below (held_at t) slots) ≤ 4
  under_some n =
      omega (
        arith,
        one_call,
        rows_bound (same_four x) (is_call_of x) (is_used t.occupied) (λ i. held_in (call_four (call_at t i))) (λ i. entry_of i (call_at t i)) slots
            (λ i l u. at_most (same_four x) (call_four (call_at t i)) (is_call_of x (entry_of i (call_at t i))) (elsewhere n (call_at t i))),
      )

  -- a call's ID is not 0
  pub under_none : x.call ≡ 0 → count_if (same_four x) (below (held_at t) slots) ≡ 0
  under_none e = none_under (same_four x) t (λ i l u j _ _. rw (e, ne_eqb 0 (call_at t i).id (omega (arith, (ids_named (call_at t i) (k.names i l u)).some))))

  -- with Call ID 0: those of one customer where it is 0, none where it is not
  standalone_some : count_if (same_four x) (below (standalone_at t) 8) ≤ 4
  standalone_some =
      omega (
        arith,
        (roster_kept t k.accepted).apart x.lsp.sender,
        rows_bound (same_four x) (is_at x.lsp.sender) (λ i. ltb i t.listed) (λ i. held_in (customer_four (customer_at t i))) (λ i. terms_of (customer_at t i)) 8
            (λ i l u. at_most (same_four x) (customer_four (customer_at t i)) (is_at x.lsp.sender (terms_of (customer_at t i))) (λ e j. rw (e, and-false (eqb x.call 0)))),
      )

  pub standalone_none : (x.call ≡ 0 → ⊥) → count_if (same_four x) (below (standalone_at t) 8) ≡ 0
  standalone_none n = none_standalone (same_four x) t (λ i l u j _ _. rw (ne_eqb x.call 0 n))

  pub fours_hold : count_if (same_four x) (held t) ≤ 4
  fours_hold = by (eqb x.call 0) refl
    where
      by : (b : Bool) → eqb x.call 0 ≡ b → count_if (same_four x) (held t) ≤ 4
      by true e = omega (arith, count_append (same_four x) (below (held_at t) slots) (below (standalone_at t) 8), under_none (eqb-true _ _ e), standalone_some)
      by false e =
          omega (
            arith,
            count_append (same_four x) (below (held_at t) slots) (below (standalone_at t) 8),
            under_some (eqb-false _ _ e),
            standalone_none (eqb-false _ _ e),
          )

-- ---- the senders

-- a connection whose sender is not in the roster
abbrev pub sender_unlisted : Table → Held → Bool
sender_unlisted t x = not (is_listed (roster t) x.lsp.sender)

module _ (t : Table) (k : Kept t) where
  -- under a call it is the call's
  pub call_sender : (i : ℕ) → i < slots → is_used t.occupied i ≡ true → not (is_listed (roster t) (call_at t i).sender) ≡ false
  call_sender i l u =
      let e : Entry = entry_of i (call_at t i) in
      let here : count_if (unlisted (roster t)) (open_at t i) ≡ bit (unlisted (roster t) e) = count_element (unlisted (roster t)) (is_used t.occupied i) e ∙ rw u in
      no_bit _ (omega (arith, here, count_at (open_at t) (unlisted (roster t)) i slots l, k.calls.senders))

  -- with Call ID 0 it is the customer
  customer_sender : (i : ℕ) → i < 8 → ltb i t.listed ≡ true → not (is_listed (roster t) (customer_at t i).address) ≡ false
  customer_sender i l u =
      let a = (customer_at t i).address in
      let here : count_if (is_at a) (listed_at t i) ≡ 1 = count_element (is_at a) (ltb i t.listed) (terms_of (customer_at t i)) ∙ rw (u, eq-eqb a a refl) in
      rw (true_has (is_at a) (roster t) (omega (arith, here, count_at (listed_at t) (is_at a) i 8 l)))

  pub senders_hold : count_if (sender_unlisted t) (held t) ≡ 0
  senders_hold = none_held (sender_unlisted t) t (λ i l u j _ _. call_sender i l u) (λ i l u j _ _. customer_sender i l u)

-- ---- the IDs

-- a connection whose IDs no place may have
abbrev pub place_unfit : Held → Bool
place_unfit x = not (place_valid (place_for x.lsp))

-- what a valid place holds may stand in a place
taken_fits : (f : Four) (j : ℕ) → four_valid f ≡ true → j < 4 → is_taken (place_at f j) ≡ true → place_unfit (connection_at f j) ≡ false
unfolding place_valid
taken_fits f j v l u = let h : place_valid (place_at f j) ≡ true = every_at _ 4 v j l in rw (rw u at h)

module _ (t : Table) (k : Kept t) where
  pub under_valid : (i : ℕ) → i < slots → is_used t.occupied i ≡ true → four_valid (call_four (call_at t i)) ≡ true
  unfolding call_free_clear
  under_valid i l u = let h : call_free_clear (call_at t i) ≡ true = rw u at (k.slots i l) in (both (request_tidy (call_at t i) && _) _ h).1

  pub standalone_valid : (i : ℕ) → i < 8 → ltb i t.listed ≡ true → four_valid (customer_four (customer_at t i)) ≡ true
  unfolding customer_free_clear
  standalone_valid i l u = let h : customer_free_clear (customer_at t i) ≡ true = rw u at (k.records i l) in
      (both (kept_tidy (customer_at t i)) _ (both (kept_tidy (customer_at t i) && four_valid (customer_four (customer_at t i))) _ h).0).1

  pub places_fit : count_if place_unfit (held t) ≡ 0
  places_fit =
      none_held place_unfit t
      (λ i l u j. taken_fits (call_four (call_at t i)) j (under_valid i l u))
      (λ i l u j. taken_fits (customer_four (customer_at t i)) j (standalone_valid i l u))
