-- The short ID that the node makes (02, A6): it and its name are unused by the pair, it is from 1 to 2 x length + 1, and each
-- smaller number is in use. For an entry takes at most two numbers, its short ID and the one that its name is made of.
-- Assumes nothing.
use Prim.Native.Nat.{ℕ, zero, suc, ◌+◌, ◌*◌, ◌≤◌, ◌<◌}
use native.Mathlib.Omega.{arith}
use mathlib.Core.Path.{◌≡◌, refl, sym, ◌∙◌}
use mathlib.Core.List.{List, [], ◌∷◌}
use mathlib.Core.Bool.{Bool, true, false, cond, not, ◌&&◌, ◌||◌}
use lib.Dec.{eqb}
use lib.ListN.{length}
use borrow.Author.Tests.{eqb-true, not-true, not-false}
use Rattle.lists.specs.Count.{bit, count_if}
use Rattle.lists.specs.Below.{first_not}
use Rattle.lists.proofs.Tests.{both}
use Rattle.lists.proofs.Count.{has_cons}
use Rattle.lists.proofs.Search.{not_from, not_most, not_below}
use Rattle.table.specs.Lists.{Ids, Entry}
use Rattle.table.specs.Rules.{same_bytes, same_pair, same_short, same_long}
use Rattle.table.proofs.SameBytes.{same_bytes_lem}
use Rattle.spec_calls.specs.CallRules.{short_in_use, long_in_use}
use Rattle.spec_calls.specs.Made.{made_ids, is_unused, made_short, made_for}
use Rattle.spec_calls.proofs.MadeName.{name_apart}

-- ---- m numbers from k on

abbrev numbers : ℕ → ℕ → List ℕ
numbers k zero = []
numbers k (suc m) = k ∷ numbers (suc k) m

-- where at most n of n + 1 numbers pass, the first that does not is one of them
few_pass : (p : ℕ → Bool) (n k : ℕ) → count_if p (numbers k (suc n)) ≤ n → p (first_not p n k) ≡ false
unfolding first_not
few_pass p zero k h = by (p k) h
  where
    by : (b : Bool) → bit b + 0 ≤ 0 → b ≡ false
    by true h = let z : ⊥ = omega arith in absurd z
    by false h = refl
few_pass p (suc n) k h = by (p k) refl h (few_pass p n (suc k))
  where
    by : (b : Bool) → p k ≡ b → bit b + count_if p (numbers (suc k) (suc n)) ≤ suc n
        → (count_if p (numbers (suc k) (suc n)) ≤ n → p (first_not p n (suc k)) ≡ false)
        → p (cond b (first_not p n (suc k)) k) ≡ false
    by true e h i = i (omega arith)
    by false e h i = e

none_pass : (p : ℕ → Bool) (k m : ℕ) → ((j : ℕ) → k ≤ j → j < k + m → p j ≡ false) → count_if p (numbers k m) ≡ 0
none_pass p k zero f = refl
none_pass p k (suc m) f = rw (f k (omega arith) (omega arith)) (omega (arith, none_pass p (suc k) m (λ j a b. f j (omega arith) (omega arith))))

-- a test that tells numbers below n apart passes at most one of them
one_passes : (p : ℕ → Bool) (n k m : ℕ) → k + m ≤ n → ((i j : ℕ) → i < n → j < n → p i ≡ true → p j ≡ true → i ≡ j) → count_if p (numbers k m) ≤ 1
one_passes p n k zero h f = omega arith
one_passes p n k (suc m) h f = by (p k) refl (one_passes p n (suc k) m (omega arith) f)
  where
    fails : p k ≡ true → (j : ℕ) → suc k ≤ j → j < suc k + m → (b : Bool) → p j ≡ b → b ≡ false
    fails e j a c true g = let z : k ≡ j = f k j (omega arith) (omega arith) e g in let w : ⊥ = omega arith in absurd w
    fails e j a c false g = refl

    by : (b : Bool) → p k ≡ b → count_if p (numbers (suc k) m) ≤ 1 → bit b + count_if p (numbers (suc k) m) ≤ 1
    by true e i = omega (arith, none_pass p (suc k) m (λ j a c. fails e j a c (p j) refl))
    by false e i = omega arith

-- what holds of the number found where there are at most 32,767 entries, and the table has 200 calls at most. Beyond that
-- it may not: from 65,536 on, numbers have the names of smaller ones again.
pub record FreeNumber (l : List Entry) (endpoint sender n : ℕ) : Type 0 where
  pub unused : is_unused l (made_ids endpoint sender n) ≡ true
  pub positive : 1 ≤ n
  pub most : n ≤ 2 * length l + 1
  pub fits : n < 65536

module _ (endpoint sender : ℕ) where
  abbrev ids : ℕ → Ids
  ids j = made_ids endpoint sender j

  -- ---- one entry takes two numbers at most

  short_one : (c : Ids) (i j : ℕ) → i < 65536 → j < 65536 → same_short (ids i) c ≡ true → same_short (ids j) c ≡ true → i ≡ j
  unfolding same_short
  short_one c i j h g p q =
      eqb-true i c.short (both (same_pair (ids i) c) (eqb i c.short) p).1 ∙ sym (eqb-true j c.short (both (same_pair (ids j) c) (eqb j c.short) q).1)

  long_one : (c : Ids) (i j : ℕ) → i < 65536 → j < 65536 → same_long (ids i) c ≡ true → same_long (ids j) c ≡ true → i ≡ j
  unfolding same_long
  long_one c i j h g p q =
      let a = same_bytes_lem (ids i).long c.long (both (same_pair (ids i) c) (same_bytes (ids i).long c.long) p).1 in
      let b = same_bytes_lem (ids j).long c.long (both (same_pair (ids j) c) (same_bytes (ids j).long c.long) q).1 in
      name_apart endpoint sender i j h g (a ∙ sym b)

  abbrev in_use : List Entry → ℕ → Bool
  in_use l j = not (is_unused l (ids j))

  -- a number is in use by the first entry's short ID, by its name, or by the others
  by_first : (e : Entry) (l : List Entry) (j : ℕ) → bit (in_use (e ∷ l) j) ≤ bit (same_short (ids j) e.ids) + (bit (same_long (ids j) e.ids) + bit (in_use l j))
  unfolding is_unused
  by_first e l j =
      rw (has_cons (λ x. same_short (ids j) x.ids) e l, has_cons (λ x. same_long (ids j) x.ids) e l)
      (by (same_short (ids j) e.ids) (same_long (ids j) e.ids) (short_in_use l (ids j)) (long_in_use l (ids j)))
    where
      by : (a b x y : Bool) → bit (not (not (a || x) && not (b || y))) ≤ bit a + (bit b + bit (not (not x && not y)))
      by true b x y = omega arith
      by false true true y = omega arith
      by false true false y = omega arith
      by false false x y = omega arith

  sum_first : (e : Entry) (l : List Entry) (k m : ℕ)
      → count_if (in_use (e ∷ l)) (numbers k m)
      ≤ count_if (λ j. same_short (ids j) e.ids) (numbers k m) + (count_if (λ j. same_long (ids j) e.ids) (numbers k m) + count_if (in_use l) (numbers k m))
  sum_first e l k zero = omega arith
  sum_first e l k (suc m) = omega (arith, by_first e l k, sum_first e l (suc k) m)

  none_in_use : (k m : ℕ) → count_if (in_use []) (numbers k m) ≡ 0
  unfolding is_unused
  none_in_use k m = none_pass (in_use []) k m (λ j a b. refl)

  few_in_use : (l : List Entry) (k m : ℕ) → k + m ≤ 65536 → count_if (in_use l) (numbers k m) ≤ 2 * length l
  few_in_use [] k m h = omega (arith, none_in_use k m)
  few_in_use (e ∷ l) k m h =
      omega (
        arith,
        sum_first e l k m,
        one_passes (λ j. same_short (ids j) e.ids) 65536 k m h (short_one e.ids),
        one_passes (λ j. same_long (ids j) e.ids) 65536 k m h (long_one e.ids),
        few_in_use l k m h,
      )

  -- ---- the number found

  -- each smaller number from 1 on is in use
  pub made_least : (l : List Entry) (j : ℕ) → 1 ≤ j → j < made_short l endpoint sender → is_unused l (made_ids endpoint sender j) ≡ false
  unfolding made_short
  made_least l j a h = not-true _ (not_below (in_use l) (2 * length l) 1 j a h)

  pub made_free : (l : List Entry) → length l ≤ 32767 → FreeNumber l endpoint sender (made_short l endpoint sender)
  unfolding made_short
  made_free l h =
      let from : 1 ≤ made_short l endpoint sender = not_from (in_use l) (2 * length l) 1 in
      let most : made_short l endpoint sender ≤ 2 * length l + 1 = not_most (in_use l) (2 * length l) 1 in
      record {
        unused = not-false _ (few_pass (in_use l) (2 * length l) 1 (few_in_use l 1 (suc (2 * length l)) (omega arith)));
        positive = from;
        most = most;
        fits = omega arith;
      }

  -- so that an opening finds neither ID in use (30, 31)
  pub made_new : (l : List Entry) → length l ≤ 32767 → (short_in_use l (made_for l endpoint sender) ≡ false) × (long_in_use l (made_for l endpoint sender) ≡ false)
  unfolding is_unused
  made_new l h =
      let c = made_for l endpoint sender in
      let u = both (not (short_in_use l c)) (not (long_in_use l c)) (made_free l h).unused in
      (not-true _ u.0, not-true _ u.1)
