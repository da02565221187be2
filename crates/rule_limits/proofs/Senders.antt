-- The calls of listed senders, counted customer by customer: once each, as an address is listed once at most.
-- Assumes nothing.
use Prim.Native.Nat.{ℕ, suc, ◌+◌, ◌≤◌}
use native.Mathlib.Omega.{arith}
use mathlib.Core.Path.{◌≡◌, refl}
use mathlib.Core.List.{List, [], ◌∷◌}
use mathlib.Core.Bool.{Bool, true, false, not}
use lib.Dec.{eqb}
use lib.ListN.{length}
use borrow.Author.Tests.{eq-eqb, ne_eqb}
use Rattle.lists.specs.Count.{bit, count_if, has, sum_of}
use Rattle.lists.proofs.Count.{has_true, has_false}
use Rattle.table.specs.Lists.{Terms, Entry}
use Rattle.table.specs.Share.{is_at, is_listed, calls_of}
use Rattle.table.specs.Rules.{unlisted}

-- a test and a number of each element, added up
sum_test {ℓ} : {A : Type ℓ} (p : A → Bool) (f : A → ℕ) (l : List A) → sum_of (λ x. bit (p x) + f x) l ≡ count_if p l + sum_of f l
sum_test p f [] = refl
sum_test p f (x ∷ l) = omega (arith, sum_test p f l)

sum_zero {ℓ} : {A : Type ℓ} (l : List A) → sum_of (λ x. 0) l ≡ 0
sum_zero [] = refl
sum_zero (x ∷ l) = omega (arith, sum_zero l)

-- those that pass and those that do not are all
count_not {ℓ} : {A : Type ℓ} (p : A → Bool) (l : List A) → count_if p l + count_if (λ x. not (p x)) l ≡ length l
count_not p [] = refl
count_not p (x ∷ l) = by (p x) (count_not p l)
  where
    by : (b : Bool) → count_if p l + count_if (λ x. not (p x)) l ≡ length l → bit b + count_if p l + (bit (not b) + count_if (λ x. not (p x)) l) ≡ suc (length l)
    by true i = omega arith
    by false i = omega arith

-- a count of one at most is whether there is one
once_bit {ℓ} : {A : Type ℓ} (p : A → Bool) (l : List A) → count_if p l ≤ 1 → count_if p l ≡ bit (has p l)
once_bit p l h = by (has p l) refl
  where
    by : (b : Bool) → has p l ≡ b → count_if p l ≡ bit b
    by true e = omega (arith, has_true p l e)
    by false e = has_false p l e

-- the calls of all customers together
abbrev known : List Terms → List Entry → ℕ
known r l = sum_of (λ c. calls_of l c.address) r

module _ (r : List Terms) (apart : (address : ℕ) → count_if (is_at address) r ≤ 1) where
  known_calls : (l : List Entry) → known r l ≡ count_if (λ e. is_listed r e.ids.sender) l
  known_calls [] = sum_zero r
  known_calls (e ∷ l) =
      let s = e.ids.sender in
      omega (arith, sum_test (is_at s) (λ c. calls_of l c.address) r, known_calls l, once_bit (is_at s) r (apart s))

  -- they are all calls where no call's sender is unlisted
  pub known_all : (l : List Entry) (n : ℕ) → n ≡ length l → eqb (known r l) n ≡ not (has (unlisted r) l)
  known_all l n e = by (has (unlisted r) l) refl (known_calls l) (count_not (λ e. is_listed r e.ids.sender) l)
    where
      by : (b : Bool) → has (unlisted r) l ≡ b → known r l ≡ count_if (λ e. is_listed r e.ids.sender) l
          → count_if (λ e. is_listed r e.ids.sender) l + count_if (unlisted r) l ≡ length l → eqb (known r l) n ≡ not b
      by true q k all = ne_eqb (known r l) n (λ (z : known r l ≡ n). omega (arith, has_true (unlisted r) l q))
      by false q k all = eq-eqb (known r l) n (omega (arith, has_false (unlisted r) l q))
