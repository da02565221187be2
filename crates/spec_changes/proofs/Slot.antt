-- The slots hold one call each. What a change of one slot does: to the call read there, to the counts over the open
-- calls and the connections, to the rules on slots and to the shape.
-- Assumes nothing.
use Prim.Native.Nat.{ℕ, zero, suc, ◌+◌, ◌≤◌, ◌<◌}
use native.Mathlib.Omega.{arith}
use mathlib.Core.Path.{◌≡◌, refl, sym, ap, ◌∙◌}
use mathlib.Core.List.{List}
use mathlib.Core.Bool.{Bool, true, false, cond, ◌&&◌}
use lib.Dec.{eqb}
use lib.ListN.{length, length-append, length-set}
use lib.Seq.{get_or-set_same, get_or-set_other}
use borrow.Author.Tests.{eqb-true, eqb-false}
use Rattle.lists.specs.Count.{bit, count_if}
use Rattle.lists.specs.Below.{element_if, below}
use Rattle.lists.proofs.Tests.{both}
use Rattle.lists.proofs.Count.{count_append}
use Rattle.lists.proofs.Below.{count_element, count_list_if, has_element, below_one}
use Rattle.lists.proofs.Search.{place_found}
use Rattle.table.specs.Table.{Call, Table}
use Rattle.table.specs.Total.{slots}
use Rattle.table.specs.Word.{bits, is_used, FourWords}
use Rattle.table.specs.Zeros.{past_call}
use Rattle.table.specs.Lists.{Entry, call_at, entry_of, open_at, entries, Held, call_four, held_in, held_at, standalone_at, held}
use Rattle.table.specs.Rules.{call_free_clear, call_clear, slot_free_clear}
use Rattle.table.specs.Stores.{with_slot}
use Rattle.spec_changes.specs.Shape.{Shape}
use Rattle.spec_changes.specs.Calls.{slot_of}

element_most {ℓ} : {A : Type ℓ} (b : Bool) (x : A) → length (element_if b x) ≤ 1
unfolding element_if
element_most true x = omega arith
element_most false x = omega arith

-- at most as many calls are open as there are slots
pub open_most : (t : Table) → length (entries t) ≤ slots
unfolding below
open_most t = first slots
  where
    first : (n : ℕ) → length (below (open_at t) n) ≤ n
    first zero = omega arith
    first (suc n) =
        omega (arith, length-append (below (open_at t) n) (open_at t n), first n, element_most {A = Entry} (is_used t.occupied n) (entry_of n (call_at t n)))

-- where an open call passes a test, the slot found is used by one that does
pub found_slot : (t : Table) (p : Entry → Bool) → 0 < count_if p (entries t)
    → (slot_of t p < slots) × (is_used t.occupied (slot_of t p) ≡ true)
    × (p (entry_of (slot_of t p) (call_at t (slot_of t p))) ≡ true)
found_slot t p h =
    let k = slot_of t p in
    let f = place_found (open_at t) p slots h in
    let e : Entry = entry_of k (call_at t k) in
    let u = both (is_used t.occupied k) (p e) (sym (has_element p (is_used t.occupied k) e) ∙ f.passes) in
    (f.inside, u.0, u.1)

module _ (t : Table) (words : List ℕ) (i : ℕ) (c : Call) (inside : i < slots) (long : slots ≤ length t.calls) where
  pub call_here : call_at (with_slot t words i c) i ≡ c
  call_here = get_or-set_same t.calls i c past_call (omega arith)

  pub call_other : (j : ℕ) → (j ≡ i → ⊥) → call_at (with_slot t words i c) j ≡ call_at t j
  call_other j n = get_or-set_other t.calls i j c past_call n

  -- what holds of the call put in and of the other slots' calls holds of every slot's
  by_slot : (q : ℕ → Call → Type 0) → q i c → ((j : ℕ) → j < slots → (j ≡ i → ⊥) → q j (call_at t j))
      → (j : ℕ) → j < slots → q j (call_at (with_slot t words i c) j)
  by_slot q h o j l = by (eqb j i) refl
    where
      by : (b : Bool) → eqb j i ≡ b → q j (call_at (with_slot t words i c) j)
      by true e = rw (eqb-true j i e, call_here) h
      by false e = rw (call_other j (eqb-false j i e)) (o j l (eqb-false j i e))

  pub slot_shape : Shape t → FourWords words → length c.places ≡ 4 → Shape (with_slot t words i c)
  slot_shape s w p = record {
    calls = simp length-set s.calls;
    customers = s.customers;
    words = w;
    places = by_slot (λ j d. length d.places ≡ 4) p (λ j l n. s.places j l);
    endpoints = s.endpoints;
    standalone_places = s.standalone_places;
  }

  -- the words beside it say the same of every other slot
  module _ (other : (j : ℕ) → (j ≡ i → ⊥) → is_used words j ≡ is_used t.occupied j) where
    pub slot_entries : (p : Entry → Bool)
        → count_if p (entries (with_slot t words i c)) + bit (is_used t.occupied i && p (entry_of i (call_at t i)))
        ≡ count_if p (entries t) + bit (is_used words i && p (entry_of i c))
    slot_entries p =
        let x : Entry = entry_of i (call_at t i) in
        let y : Entry = entry_of i (call_at (with_slot t words i c) i) in
        omega (
          arith,
          below_one (open_at (with_slot t words i c)) (open_at t) p i slots inside (λ j n. rw (other j n, call_other j n)),
          count_element p (is_used t.occupied i) x,
          count_element p (is_used words i) y ∙ ap (λ d. bit (is_used words i && p (entry_of i d))) call_here,
        )

    pub slot_held : (p : Held → Bool)
        → count_if p (held (with_slot t words i c)) + cond (is_used t.occupied i) (count_if p (held_in (call_four (call_at t i)))) 0
        ≡ count_if p (held t) + cond (is_used words i) (count_if p (held_in (call_four c))) 0
    slot_held p =
        omega (
          arith,
          count_append p (below (held_at (with_slot t words i c)) slots) (below (standalone_at t) 8),
          count_append p (below (held_at t) slots) (below (standalone_at t) 8),
          below_one (held_at (with_slot t words i c)) (held_at t) p i slots inside (λ j n. rw (other j n, call_other j n)),
          count_list_if p (is_used t.occupied i) (held_in (call_four (call_at t i))),
          count_list_if p (is_used words i) (held_in (call_four (call_at (with_slot t words i c) i))) ∙ ap (λ d. cond (is_used words i) (count_if p (held_in (call_four d))) 0) call_here,
        )

    -- what holds of every open call holds with the one put in, if it holds of that
    pub slot_each : (q : Call → Type 0) → ((j : ℕ) → j < slots → is_used t.occupied j ≡ true → q (call_at t j)) → (is_used words i ≡ true → q c)
        → (j : ℕ) → j < slots → is_used words j ≡ true → q (call_at (with_slot t words i c) j)
    slot_each q h k = by_slot (λ j d. is_used words j ≡ true → q d) k (λ j l n u. h j l (sym (other j n) ∙ u))

    pub slot_free_clear_lem : ((j : ℕ) → j < slots → slot_free_clear t j ≡ true) → cond (is_used words i) (call_free_clear c) (call_clear c) ≡ true
        → (j : ℕ) → j < slots → slot_free_clear (with_slot t words i c) j ≡ true
    slot_free_clear_lem h k = by_slot (λ j d. cond (is_used words j) (call_free_clear d) (call_clear d) ≡ true) k (λ j l n. rw (other j n) (h j l))

    -- no call comes to stand outside a bound that the slot is below
    pub slot_within : (n : ℕ) → ((j : ℕ) → j < bits → is_used t.occupied j ≡ true → j < n) → (is_used words i ≡ true → i < n)
        → (j : ℕ) → j < bits → is_used words j ≡ true → j < n
    slot_within n h k j l u = by (eqb j i) refl
      where
        by : (b : Bool) → eqb j i ≡ b → j < n
        by true e = let same : j ≡ i = eqb-true j i e in rw same (k (rw same at u))
        by false e = h j l (sym (other j (eqb-false j i e)) ∙ u)
