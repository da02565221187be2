-- The used slots as a list, and what stands in places that a list says: how a checkpoint's calls are the table's.
-- Assumes nothing.
use Prim.Native.Nat.{ℕ, zero, suc, ◌<◌}
use native.Mathlib.Nat.{not-suc-le-zero, le_of_suc-le-suc}
use native.Mathlib.Omega.{arith}
use mathlib.Core.Path.{◌≡◌, refl, sym, ap, ◌∙◌}
use mathlib.Core.List.{List, [], ◌∷◌, ◌++◌, map, map-append, append_assoc, append-nil}
use mathlib.Core.Bool.{Bool, true, false, not}
use lib.ListN.{length, get_or}
use Rattle.lists.specs.Count.{bit, count_if}
use Rattle.lists.specs.Below.{element_if, list_if, below}
use Rattle.spec_checkpoint.specs.Layout.{joined}
use Rattle.spec_checkpoint.proofs.Blocks.{joined_append}

-- ---- a list by its places

below_front {ℓ} : {A : Type ℓ} (g : ℕ → List A) (n : ℕ) → below g (suc n) ≡ g 0 ++ below (λ j. g (suc j)) n
unfolding below
below_front g zero = sym (append-nil (g 0))
below_front g (suc n) = ap (λ l. l ++ g (suc n)) (below_front g n) ∙ append_assoc (g 0) (below (λ j. g (suc j)) n) (g (suc n))

pub each_of {ℓ ℓ'} : {A : Type ℓ} {B : Type ℓ'} (f : A → B) (d : A) (l : List A) → below (λ j. f (get_or l j d) ∷ []) (length l) ≡ map f l
unfolding below
each_of f d [] = refl
each_of f d (x ∷ l) = below_front (λ j. f (get_or (x ∷ l) j d) ∷ []) (length l) ∙ ap (λ k. f x ∷ k) (each_of f d l)

pub map_same {ℓ} : {A : Type ℓ} (l : List A) → map (λ x. x) l ≡ l
map_same [] = refl
map_same (x ∷ l) = ap (λ k. x ∷ k) (map_same l)

pub map_length {ℓ ℓ'} : {A : Type ℓ} {B : Type ℓ'} (f : A → B) (l : List A) → length (map f l) ≡ length l
map_length f [] = refl
map_length f (x ∷ l) = ap suc (map_length f l)

-- an element of a list in which a test passes everywhere
pub passes {ℓ} : {A : Type ℓ} (p : A → Bool) (d : A) (l : List A) → count_if (λ x. not (p x)) l ≡ 0 → (j : ℕ) → j < length l → p (get_or l j d) ≡ true
passes p d [] e j h = absurd (not-suc-le-zero h)
passes p d (x ∷ l) e zero h = by (p x) (omega arith)
  where
    by : (b : Bool) → bit (not b) ≡ 0 → b ≡ true
    by true q = refl
    by false q = let z : ⊥ = omega arith in absurd z
passes p d (x ∷ l) e (suc j) h = passes p d l (omega arith) j (le_of_suc-le-suc h)

-- ---- places that are used

module _ (u : ℕ → Bool) where
  -- the used ones below a bound
  abbrev pub used : ℕ → List ℕ
  used n = below (λ i. element_if (u i) i) n

  pub used_blocks : (f : ℕ → List ℕ) (n : ℕ) → below (λ i. list_if (u i) (f i)) n ≡ joined f (used n)
  unfolding below element_if list_if
  used_blocks f zero = refl
  used_blocks f (suc n) = rw (used_blocks f n, joined_append f (used n) (element_if (u n) n)) (ap (λ l. joined f (used n) ++ l) (by (u n)))
    where
      by : (b : Bool) → list_if b (f n) ≡ joined f (element_if b n)
      by true = sym (append-nil (f n))
      by false = refl

  pub used_elements {ℓ} : {A : Type ℓ} (e : ℕ → A) (n : ℕ) → below (λ i. element_if (u i) (e i)) n ≡ map e (used n)
  unfolding below element_if
  used_elements e zero = refl
  used_elements e (suc n) = rw (used_elements e n, map-append e (used n) (element_if (u n) n)) (ap (λ l. map e (used n) ++ l) (by (u n)))
    where
      by : (b : Bool) → element_if b (e n) ≡ map e (element_if b n)
      by true = refl
      by false = refl
