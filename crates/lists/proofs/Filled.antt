-- A list of n places that a loop writes one after another: before the first turn (`fill_none`), one turn (`fill_turn`),
-- what a later place still has (`fill_left`), and after the last turn (`fill_all`).
-- Assumes nothing.
use Prim.Native.Nat.{ℕ, ◌+◌, ◌≤◌, ◌<◌}
use native.Mathlib.Nat.{eq-or-lt_of_le}
use native.Mathlib.Omega.{arith}
use mathlib.Core.Path.{◌≡◌, refl, sym, ◌∙◌}
use mathlib.Core.Logic.{⊎_elim}
use mathlib.Core.List.{List, [], ◌∷◌}
use mathlib.Core.Bool.{Bool, true, false, cond}
use lib.Dec.{ltb}
use lib.ListN.{length, get_or, set}
use lib.Seq.{ext_get_or}
use borrow.Author.Tests.{ltb-true, ltb-false, lt-ltb, le-ltb}
use Rattle.lists.specs.Below.{below}
use Rattle.lists.proofs.Below.{below_ext, length_each, get_d_each, set_each}

module _ {ℓ} {A : Type ℓ} (f g : ℕ → A) (n : ℕ) where
  -- the first k places are f's, the others g's still
  abbrev pub filled : ℕ → List A
  filled k = below (λ i. cond (ltb i k) (f i) (g i) ∷ []) n

  pub fill_turn : (k : ℕ) (l : List A) (x : A) → k < n → l ≡ filled k → x ≡ f k → set l k x ≡ filled (k + 1)
  fill_turn k l x h e q =
      rw (e, q) (rw (lt-ltb k (k + 1) (omega arith)) at (set_each (λ i. cond (ltb i k) (f i) (g i)) (λ i. cond (ltb i (k + 1)) (f i) (g i)) n k h other))
    where
      other : (i : ℕ) → (i ≡ k → ⊥) → cond (ltb i k) (f i) (g i) ≡ cond (ltb i (k + 1)) (f i) (g i)
      other i o = go (ltb i k) refl
        where
          go : (b : Bool) → ltb i k ≡ b → cond b (f i) (g i) ≡ cond (ltb i (k + 1)) (f i) (g i)
          go true e = rw (lt-ltb i (k + 1) (omega (arith, ltb-true i k e)))
          go false e = rw (le-ltb i (k + 1) (⊎_elim (λ (q : k ≡ i). absurd (o (sym q))) (λ (q : k < i). omega arith) (eq-or-lt_of_le (ltb-false i k e))))

  -- what a place that is not written yet has
  pub fill_left : (k i : ℕ) (l : List A) (d : A) → k ≤ i → i < n → l ≡ filled k → get_or l i d ≡ g i
  fill_left k i l d h b e = rw e (get_d_each (λ i. cond (ltb i k) (f i) (g i)) n i d b ∙ rw (le-ltb i k h))

  pub fill_all : filled n ≡ below (λ i. f i ∷ []) n
  fill_all = below_ext (λ i. cond (ltb i n) (f i) (g i) ∷ []) (λ i. f i ∷ []) n (λ i l. rw (lt-ltb i n l))

-- nothing is written yet
pub fill_none {ℓ} : {A : Type ℓ} (f : ℕ → A) (l : List A) (n : ℕ) (d : A) → length l ≡ n → l ≡ filled f (λ i. get_or l i d) n 0
fill_none f l n d e =
    ext_get_or d l (filled f (λ i. get_or l i d) n 0) (e ∙ sym (length_each _ n))
    (λ i h. sym (fill_left f (λ i. get_or l i d) n 0 i _ d (omega arith) (rw e at h) refl))
