-- A list in parts, by a number that each element has: where elements that are the same have one number, no two are the
-- same in the list where none are in any part.
-- Assumes nothing.
use Prim.Native.Nat.{ℕ, ◌≤◌}
use native.Mathlib.Omega.{arith}
use mathlib.Core.Path.{◌≡◌, refl, sym, ◌∙◌}
use mathlib.Core.List.{List, [], ◌∷◌}
use mathlib.Core.Bool.{Bool, true, false, cond, not, ◌&&◌}
use lib.Dec.{eqb}
use borrow.Author.Tests.{eq-eqb, not-true, not-false}
use Rattle.lists.specs.Count.{count_if, has, no_two, without}
use Rattle.lists.proofs.Tests.{both}
use Rattle.lists.proofs.Count.{no_bit, has_false, false_has, count_ext, count_le, count_without}

-- those that have a number
abbrev pub part : {A : Type 0} → (A → ℕ) → ℕ → List A → List A
part key a l = without (λ x. not (eqb (key x) a)) l

module _ {A : Type 0} (same : A → A → Bool) (key : A → ℕ) where
  pub part_once : (a : ℕ) (l : List A) → no_two same l ≡ true → no_two same (part key a l) ≡ true
  part_once a [] h = refl
  part_once a (x ∷ l) h =
      let k = both (not (has (same x) l)) (no_two same l) h in
      by (eqb (key x) a) (has_false (same x) l (not-true _ k.0)) (part_once a l k.1)
    where
      less : count_if (same x) (part key a l) ≤ count_if (same x) l
      less = rw (count_without (same x) (λ y. not (eqb (key y) a)) l) (count_le _ (same x) l (λ y h. (both (not (not (eqb (key y) a))) (same x y) h).1))

      by : (b : Bool) → count_if (same x) l ≡ 0 → no_two same (part key a l) ≡ true → no_two same (cond (not b) (part key a l) (x ∷ part key a l)) ≡ true
      by true none i = rw (false_has (same x) (part key a l) (omega (arith, less)), i)
      by false none i = i

  module _ (alike : (x y : A) → same x y ≡ true → key x ≡ key y) where
    -- of what is the same as an element, nothing is left out of the element's part
    count_part : (x : A) (l : List A) → count_if (same x) (part key (key x) l) ≡ count_if (same x) l
    count_part x l = count_without (same x) (λ y. not (eqb (key y) (key x))) l ∙ count_ext _ (same x) l (λ y. by y (same x y) refl)
      where
        rest : (b : Bool) → (not (not b) && false) ≡ false
        rest true = refl
        rest false = refl

        by : (y : A) (b : Bool) → same x y ≡ b → (not (not (eqb (key y) (key x))) && b) ≡ b
        by y true e = rw (eq-eqb (key y) (key x) (sym (alike x y e)))
        by y false e = rest (eqb (key y) (key x))

    -- where every element's number passes a test, the parts of numbers that pass it are all that there are
    pub parts_once : (passes : ℕ → Bool) (l : List A) → count_if (λ x. not (passes (key x))) l ≡ 0
        → ((a : ℕ) → passes a ≡ true → no_two same (part key a l) ≡ true) → no_two same l ≡ true
    parts_once passes [] all h = refl
    parts_once passes (x ∷ l) all h =
        rw (
          false_has (same x) l (omega (arith, count_part x l, has_false (same x) (part key (key x) l) (not-true _ own.0))),
          parts_once passes l (omega arith) (λ a p. by a (eqb (key x) a) (h a p)),
        )
      where
        own : (not (has (same x) (part key (key x) l)) ≡ true) × (no_two same (part key (key x) l) ≡ true)
        own =
            let passed = not-false (passes (key x)) (no_bit (not (passes (key x))) (omega arith)) in
            both (not (has (same x) (part key (key x) l))) (no_two same (part key (key x) l)) (rw (eq-eqb (key x) (key x) refl) at (h (key x) passed))

        by : (a : ℕ) (b : Bool) → no_two same (cond (not b) (part key a l) (x ∷ part key a l)) ≡ true → no_two same (part key a l) ≡ true
        by a true k = (both (not (has (same x) (part key a l))) (no_two same (part key a l)) k).1
        by a false k = k
