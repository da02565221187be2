-- A search of places that ends where it finds one: what it gives is `then_some`, of whether there is one and which.
-- Assumes nothing.
use Rattle.std.proofs.Common.{◌≡◌, ℕ, zero, suc, ◌+◌, ◌<◌, Bool, true, false, cond, not, ◌&&◌, ◌||◌, List, [], ◌∷◌, ◌++◌, Option, Some, None, sym, refl, ap, ap₂, ◌∙◌, arith}
use Rattle.std.specs.Bool.{then_some}
use Rattle.std.specs.Option.{is_some, unwrap_or, option_or}
use mathlib.Core.Bool.{true≢false, or-false}
use Rattle.std.specs.List.{range_with_len, list_any, find}
use Rattle.std.proofs.lemmas.List.Folds.{list_any-append, find-append}
use mir.Val.{bool_byte}
use mathlib.Core.Logic.{⊎_elim}
use native.Mathlib.Nat.{add-zero, zero-add, eq-or-lt_of_le, le_of_suc-le-suc}
use native.Mathlib.Numerals.{add-one}
use Rattle.lists.specs.Count.{bit, has, first_of}
use Rattle.lists.specs.Below.{element_if, below, place_of}
use Rattle.lists.proofs.Count.{has_true, has_false, true_has, has_append, has_cons}
use Rattle.lists.proofs.Below.{below_more, count_at, has_none}
use Rattle.lists.proofs.Search.{first_found, first_least, place_found, place_none, place_turn}

module _ {A : Type 0} (f : ℕ → List A) (p : A → Bool) (i m : ℕ) (l : i < m) (before : has p (below f i) ≡ false) (here : has p (f i) ≡ true) where
  abbrev passes : ℕ → Bool
  passes j = has p (f j)

  pub first_has : has p (below f m) ≡ true
  first_has = true_has p (below f m) (omega (arith, count_at f p i m l, has_true p (f i) here))

  not_before : place_of f p m < i → ⊥
  not_before k =
      let e = (first_found passes m i l here).passes in
      omega (arith, count_at f p (place_of f p m) i k, has_true p (f (place_of f p m)) e, has_false p (below f i) before)

  not_behind : i < place_of f p m → ⊥
  not_behind k = true≢false (sym here ∙ first_least passes m i k)

  pub first_place : place_of f p m ≡ i
  first_place = omega (arith, not_before, not_behind)

  pub found_here : Some i ≡ then_some (has p (below f m)) (place_of f p m)
  found_here = rw (first_has, first_place)

-- ---- the number that the first element to pass has

module _ {A : Type 0} (g : A → ℕ) (p : A → Bool) where
  first_append : (l k : List A) → first_of g p (l ++ k) ≡ cond (has p l) (first_of g p l) (first_of g p k)
  first_append [] k = refl
  first_append (x ∷ l) k = rw (has_cons p x l) (by (p x) (first_append l k))
    where
      by : (b : Bool) → first_of g p (l ++ k) ≡ cond (has p l) (first_of g p l) (first_of g p k)
          → cond b (g x) (first_of g p (l ++ k)) ≡ cond (b || has p l) (cond b (g x) (first_of g p l)) (first_of g p k)
      by true e = refl
      by false e = e

  pub first_element : (b : Bool) (x : A) → (b && p x) ≡ true → first_of g p (element_if b x) ≡ g x
  unfolding element_if
  first_element true x h = rw h
  first_element false x h = absurd (true≢false (sym h))

  pub first_behind : (f : ℕ → List A) (i m : ℕ) → i < m → has p (below f i) ≡ false → has p (f i) ≡ true → first_of g p (below f m) ≡ first_of g p (f i)
  unfolding below
  first_behind f i zero l before here = let z : ⊥ = omega arith in absurd z
  first_behind f i (suc m) l before here = first_append (below f m) (f m) ∙ ⊎_elim last (λ k. more (first_behind f i m k before here) k) (eq-or-lt_of_le (le_of_suc-le-suc l))
    where
      last : i ≡ m → cond (has p (below f m)) (first_of g p (below f m)) (first_of g p (f m)) ≡ first_of g p (f i)
      last e = rw (← e, before)

      more : first_of g p (below f m) ≡ first_of g p (f i) → i < m → cond (has p (below f m)) (first_of g p (below f m)) (first_of g p (f m)) ≡ first_of g p (f i)
      more e k = rw (first_has f p i m k before here) e

pub found_none : (b : Bool) (n : ℕ) → b ≡ false → None ≡ then_some b n
found_none b n e = rw e

-- ---- what was found, and nothing

pub none_of : (b : Bool) (n : ℕ) → then_some b n ≡ None → b ≡ false
none_of true n e = cc
none_of false n e = refl

pub some_of : (b : Bool) (n k : ℕ) → then_some b n ≡ Some k → (b ≡ true) × (n ≡ k)
some_of true n k e = (refl, cc)
some_of false n k e = cc

pub some_is : (b : Bool) (n : ℕ) → is_some (then_some b n) ≡ b
some_is true n = refl
some_is false n = refl

-- one more place of a search that goes on: what was found first stays
pub found_turn : (u s : Bool) (n i : ℕ) → option_or (then_some u n) (then_some s i) ≡ then_some (u || s) (cond (s && not u) i n)
found_turn true true n i = refl
found_turn true false n i = refl
found_turn false true n i = refl
found_turn false false n i = refl

pub or_none : (o : Option ℕ) → o ≡ option_or o None
or_none None = refl
or_none (Some n) = refl

pub found_more : {A : Type 0} (f : ℕ → List A) (p : A → Bool) (i : ℕ) (s : Bool) → s ≡ has p (f i)
    → option_or (then_some (has p (below f i)) (place_of f p i)) (then_some s i) ≡ then_some (has p (below f (i + 1))) (place_of f p (i + 1))
found_more f p i s e =
    found_turn (has p (below f i)) s (place_of f p i) i
    ∙ ap₂ then_some (rw (e, below_more f i) (sym (has_append p (below f i) (f i)))) (place_turn f p i _ _ s refl refl e)

-- where nothing passes, the first place is 0
module _ {A : Type 0} (f : ℕ → List A) (p : A → Bool) where
  pub place_nothing : (n : ℕ) → has p (below f n) ≡ false → place_of f p n ≡ 0
  place_nothing zero h = place_none f p
  place_nothing (suc n) h = by (has p (below f n)) (has p (f n)) refl refl (sym (has_append p (below f n) (f n)) ∙ ap (has p) (sym (below_more f n) ∙ rw add-one) ∙ h) (place_nothing n)
    where
      by : (u s : Bool) → has p (below f n) ≡ u → has p (f n) ≡ s → (u || s) ≡ false → (has p (below f n) ≡ false → place_of f p n ≡ 0) → place_of f p (suc n) ≡ 0
      by true s e k h i = absurd (true≢false h)
      by false true e k h i = absurd (true≢false h)
      by false false e k h i = rw add-one at (sym (place_turn f p n (place_of f p n) false false (sym e) refl (sym k))) ∙ i e

  pub place_or : (n : ℕ) → unwrap_or (then_some (has p (below f n)) (place_of f p n)) 0 ≡ place_of f p n
  place_or n = by (has p (below f n)) refl
    where
      by : (b : Bool) → has p (below f n) ≡ b → unwrap_or (then_some b (place_of f p n)) 0 ≡ place_of f p n
      by true e = refl
      by false e = sym (place_nothing n e)

  pub place_below : (n : ℕ) → 0 < n → place_of f p n < n
  place_below n l = by (has p (below f n)) refl
    where
      by : (b : Bool) → has p (below f n) ≡ b → place_of f p n < n
      by true e = (place_found f p n (has_true p (below f n) e)).inside
      by false e = rw (place_nothing n e) l

-- ---- the same by an iterator over the places' numbers

range_more : (a n : ℕ) → range_with_len a (suc n) ≡ range_with_len a n ++ ((a + n) ∷ [])
range_more a zero = rw add-zero
range_more a (suc n) = let e : a + 1 + n ≡ a + suc n = omega arith in ap (λ l. a ∷ l) (range_more (a + 1) n ∙ rw e)

-- `q` is the test of a place's number
module _ {A : Type 0} (f : ℕ → List A) (p : A → Bool) (q : ℕ → Bool) (same : (i : ℕ) → q i ≡ has p (f i)) where
  -- `any` over the first n places
  pub any_place : (n : ℕ) → list_any q (range_with_len 0 n) ≡ has p (below f n)
  unfolding below
  any_place zero = sym (has_none f p)
  any_place (suc n) =
      ap (list_any q) (range_more 0 n) ∙ list_any-append q (range_with_len 0 n) ((0 + n) ∷ [])
      ∙ rw (any_place n, zero-add, has_append p (below f n) (f n), or-false (q n), same n)

  -- `find` over them
  pub find_place : (n : ℕ) → find q (range_with_len 0 n) ≡ then_some (has p (below f n)) (place_of f p n)
  find_place zero = found_none (has p (below f 0)) (place_of f p 0) (has_none f p)
  find_place (suc n) =
      ap (find q) (range_more 0 n) ∙ find-append q (range_with_len 0 n) ((0 + n) ∷ [])
      ∙ rw (find_place n, zero-add, one (q n)) (found_more f p n _ (same n) ∙ rw add-one)
    where
      one : (b : Bool) → cond b (Some n) None ≡ then_some b n
      one true = refl
      one false = refl

-- ---- a count: what `usize::from` of a test adds

pub as_bit : (b : Bool) → bool_byte b ≡ bit b
as_bit true = refl
as_bit false = refl
