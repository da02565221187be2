-- A four, place by place: one place changed, a free one found, and the one found that holds what passes a test; and rows
-- of lists, of which some are in use.
-- Assumes nothing.
use Prim.Native.Nat.{ℕ, zero, suc, ◌≤◌, ◌<◌}
use native.Mathlib.Omega.{arith}
use mathlib.Core.Path.{◌≡◌, refl, sym, ◌∙◌}
use mathlib.Core.List.{List}
use mathlib.Core.Bool.{Bool, true, false, not}
use lib.Dec.{eqb}
use lib.ListN.{length, get_or, set}
use lib.Seq.{get_or-set_same, get_or-set_other}
use borrow.Author.Tests.{eqb-true, eqb-false}
use Rattle.lists.specs.Count.{count_if, has}
use Rattle.lists.specs.Below.{list_if, below, every_below, first_below, place_of}
use Rattle.lists.proofs.Tests.{both}
use Rattle.lists.proofs.Count.{has_true}
use Rattle.lists.proofs.Below.{count_element, has_element, has_list_if, count_at, count_below_lem, every_within, every_at}
use Rattle.lists.proofs.Search.{Found, first_found, place_found}
use Rattle.table.specs.Table.{Place}
use Rattle.table.specs.Zeros.{no_place}
use Rattle.table.specs.Lists.{Lsp, Held, Four, place_at, is_taken, connection_at, held_place, held_in}
use Rattle.table.specs.Rules.{is_lsp, place_valid}
use Rattle.spec_changes.specs.Connections.{free_place, place_with}

-- what holds of the new element, and of the old one at an index, holds at that index after the change
pub set_holds {ℓ} : {P : Type 0} (holds : P → Type ℓ) (l : List P) (j i : ℕ) (q d : P) → i < length l → (i ≡ j → holds q) → holds (get_or l i d)
    → holds (get_or (set l j q) i d)
set_holds holds l j i q d h new old = by (eqb i j) refl
  where
    by : (b : Bool) → eqb i j ≡ b → holds (get_or (set l j q) i d)
    by true e = let s : i ≡ j = eqb-true i j e in rw (s, get_or-set_same l j q d (omega arith)) (new s)
    by false e = rw (get_or-set_other l j i q d (eqb-false i j e)) old

-- every place is valid, as before
pub places_valid : (l : List Place) (j : ℕ) (q : Place) → length l ≡ 4 → place_valid q ≡ true → every_below (λ i. place_valid (get_or l i no_place)) 4 ≡ true
    → every_below (λ i. place_valid (get_or (set l j q) i no_place)) 4 ≡ true
places_valid l j q four new old =
    every_within _ 4 (λ i h. set_holds (λ x. place_valid x ≡ true) l j i q no_place (omega arith) (λ e. new) (every_at _ 4 old i h))

module _ (f : Four) where
  abbrev free : ℕ → Bool
  free j = not (is_taken (place_at f j))

  free_among : (p : Held → Bool) → ((j : ℕ) → p (connection_at f j) ≡ true) → (n : ℕ) → count_if p (below (held_place f) n) < n → Found free n (first_below free n)
  free_among p all zero h = let z : ⊥ = omega arith in absurd z
  free_among p all (suc n) h = by (is_taken (place_at f n)) refl (free_among p all n)
    where
      by : (b : Bool) → is_taken (place_at f n) ≡ b → (count_if p (below (held_place f) n) < n → Found free n (first_below free n))
          → Found free (suc n) (first_below free (suc n))
      by true e i =
          let one : count_if p (held_place f n) ≡ 1 = rw (count_element p (is_taken (place_at f n)) (connection_at f n), e, all n) in
          let k = i (omega (arith, count_below_lem (held_place f) p n)) in
          first_found free (suc n) (first_below free n) (omega (arith, k.inside)) k.passes
      by false e i = first_found free (suc n) n (omega arith) (rw e)

  -- where all that the places hold pass a test and fewer than four pass, the first free place is free
  pub free_found : (p : Held → Bool) → ((j : ℕ) → p (connection_at f j) ≡ true) → count_if p (held_in f) < 4 → Found (λ j. not (is_taken (place_at f j))) 4 (free_place f)
  free_found p all h = free_among p all 4 h

  -- where a connection is held, the place found is taken, and what it holds is that connection
  pub found_place : (x : Lsp) → 0 < count_if (is_lsp x) (held_in f)
      → (place_with f x < 4) × (is_taken (place_at f (place_with f x)) ≡ true) × (is_lsp x (connection_at f (place_with f x)) ≡ true)
  found_place x h =
      let j = place_with f x in
      let g = place_found (held_place f) (is_lsp x) 4 h in
      let k = both (is_taken (place_at f j)) (is_lsp x (connection_at f j)) (sym (has_element (is_lsp x) (is_taken (place_at f j)) (connection_at f j)) ∙ g.passes) in
      (g.inside, k.0, k.1)

-- rows, of which some are in use
module _ {A : Type 0} (p : A → Bool) (used : ℕ → Bool) (row : ℕ → List A) (n : ℕ) where
  abbrev rows : ℕ → List A
  rows i = list_if (used i) (row i)

  -- what one counts, all count
  pub row_within : (i : ℕ) → i < n → used i ≡ true → count_if p (row i) ≤ count_if p (below rows n)
  unfolding list_if
  row_within i h u = rw u at (count_at rows p i n h)

  -- where something passes, the first row that has something which passes is in use
  pub found_row : 0 < count_if p (below rows n) → (place_of rows p n < n) × (used (place_of rows p n) ≡ true) × (0 < count_if p (row (place_of rows p n)))
  found_row h =
      let i = place_of rows p n in
      let f = place_found rows p n h in
      let k = both (used i) (has p (row i)) (sym (has_list_if p (used i) (row i)) ∙ f.passes) in
      (f.inside, k.0, has_true p (row i) k.1)
