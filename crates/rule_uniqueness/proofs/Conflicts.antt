-- Two calls in conflict, and no two open calls so, by pairs of slots: what the loops over the slots find.
-- Assumes nothing.
use Prim.Native.Nat.{ℕ}
use mathlib.Core.Path.{◌≡◌, refl, ap, ◌∙◌}
use mathlib.Core.List.{List}
use mathlib.Core.Bool.{Bool, true, false, not, ◌&&◌, ◌||◌}
use lib.Dec.{eqb}
use Rattle.lists.specs.Count.{no_two}
use Rattle.lists.specs.Below.{element_if, below}
use Rattle.lists.specs.Pairs.{pairs_below}
use Rattle.lists.proofs.Pairs.{pairs_both, pairs_ext, no_two_places}
use Rattle.table.specs.Lists.{Entry}
use Rattle.table.specs.Rules.{same_bytes, same_pair, same_short, same_long, same_request}
use Rattle.rule_uniqueness.specs.Conflict.{conflict}

-- the pair is asked for once
pub one_pair : (e f : Entry) (p s l : Bool) → p ≡ same_pair e.ids f.ids → s ≡ eqb e.ids.short f.ids.short
    → l ≡ same_bytes e.ids.long f.ids.long
    → (p && (s || l || e.made && f.made && eqb e.request.epoch f.request.epoch && eqb e.request.identifier f.request.identifier)) ≡ conflict e f
unfolding same_short same_long same_request
one_pair e f p s l h i j =
    rw (← h, ← i, ← j) (by p s l e.made f.made (eqb e.request.epoch f.request.epoch) (eqb e.request.identifier f.request.identifier))
  where
    by : (p s l m n x y : Bool) → (p && (s || l || m && n && x && y)) ≡ (p && s || p && l || m && n && p && x && y)
    by true s l true true x y = refl
    by true s l true false x y = refl
    by true s l false n x y = refl
    by false s l true true x y = refl
    by false s l true false x y = refl
    by false s l false n x y = refl

module _ {ℓ} {A : Type ℓ} (u : ℕ → Bool) (x : ℕ → A) (n : ℕ) where
  abbrev used : List A
  used = below (λ i. element_if (u i) (x i)) n

  -- a test of slots that are used
  abbrev apart : (A → A → Bool) → ℕ → ℕ → Bool
  apart p i j = not (u j && (u i && p (x j) (x i)))

  -- two tests of slots at once
  both_apart : (s l : A → A → Bool) → pairs_below (apart (λ y z. s y z || l y z)) n ≡ (no_two s used && no_two l used)
  both_apart s l =
      rw (no_two_places s u x n, no_two_places l u x n, ← (pairs_both _ _ n)) (pairs_ext _ _ n (λ i j. by (u j) (u i) (s (x j) (x i)) (l (x j) (x i))))
    where
      by : (u v a b : Bool) → not (u && (v && (a || b))) ≡ (not (u && (v && a)) && not (u && (v && b)))
      by true true true b = refl
      by true true false b = refl
      by true false a b = refl
      by false v a b = refl

  -- three
  pub slots_apart : (s l q : A → A → Bool) → pairs_below (apart (λ y z. s y z || l y z || q y z)) n ≡ (no_two s used && no_two l used && no_two q used)
  slots_apart s l q =
      both_apart (λ y z. s y z || l y z) q
      ∙ ap (λ b. b && no_two q used) (no_two_places (λ y z. s y z || l y z) u x n ∙ both_apart s l)
