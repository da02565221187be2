-- A search along a chain, from its head back: of the places that are noted it finds the last one that passes a test,
-- where whatever passes is of that chain.
-- Assumes nothing.
use Prim.Native.Nat.{ℕ, suc, ◌-◌, ◌≤◌, ◌<◌}
use native.Mathlib.Omega.{arith}
use mathlib.Core.Path.{◌≡◌, refl, sym, ap, ◌∙◌}
use mathlib.Core.List.{List}
use mathlib.Core.Bool.{Bool, true, false, ◌&&◌, and-false}
use lib.ListN.{length, get_or}
use borrow.Author.Tests.{eq-eqb}
use Rattle.lists.specs.Chain.{last_below, in_chain, InChains}
use Rattle.lists.proofs.Tests.{both}
use Rattle.lists.proofs.Chain.{last_none, last_here, last_not, last_within, last_itself, last_is_last, last_rest, back_in, back_less, back_last, back_none}

not_passed : (b : Bool) → (b ≡ true → ⊥) → b ≡ false
not_passed true h = absurd (h refl)
not_passed false h = refl

-- the search in chain m has come to place e - 1, the last of the chain up to there, and has passed over none that passes
pub record Reached (noted : ℕ → Bool) (chain : ℕ → ℕ) (n m : ℕ) (passes : ℕ → Bool) (e : ℕ) : Type 0 where
  pub within : e ≤ n
  pub last : e ≡ last_below (in_chain noted chain m) e
  pub rest : last_below (λ i. noted i && passes i) n ≡ last_below (λ i. noted i && passes i) e

module _ (noted : ℕ → Bool) (chain : ℕ → ℕ) (heads links : List ℕ) (n m : ℕ) (passes : ℕ → Bool) (c : InChains noted chain heads links n)
    (only : (j : ℕ) → passes j ≡ true → chain j ≡ m) where
  is_in_lem : (j : ℕ) → (noted j && passes j) ≡ true → in_chain noted chain m j ≡ true
  is_in_lem j h = let b = both (noted j) (passes j) h in rw b.0 (eq-eqb (chain j) m (only j b.1))

  pub reached_head : m < length heads → Reached noted chain n m passes (get_or heads m 0)
  reached_head inside = rw (c.head m inside) (record {
    within = last_within (in_chain noted chain m) n;
    last = last_itself (in_chain noted chain m) n;
    rest =
        last_rest (λ i. noted i && passes i) (last_below (in_chain noted chain m) n) n (last_within (in_chain noted chain m) n)
        (λ j a b. not_passed _ (λ h. last_is_last (in_chain noted chain m) n j a b (is_in_lem j h)));
  })

  pub reached_end : Reached noted chain n m passes 0 → 0 ≡ last_below (λ i. noted i && passes i) n
  reached_end r = sym (r.rest ∙ last_none (λ i. noted i && passes i))

  module _ (e : ℕ) (some : e ≡ 0 → ⊥) (r : Reached noted chain n m passes e) where
    one_back : e ≡ suc (e - 1)
    one_back = omega arith

    pub reached_found : passes (e - 1) ≡ true → e ≡ last_below (λ i. noted i && passes i) n
    reached_found h =
        let here = (both (noted (e - 1)) _ (back_in noted chain heads links n m e c (omega arith) r.within r.last)).0 in
        one_back ∙ sym (last_here (λ i. noted i && passes i) (e - 1) (rw (here, h))) ∙ ap (λ (k : ℕ). last_below (λ i. noted i && passes i) k) (sym one_back)
        ∙ sym r.rest

    pub reached_less : get_or links (e - 1) 0 < e
    reached_less = back_less noted chain heads links n m e c (omega arith) r.within r.last

    pub reached_next : passes (e - 1) ≡ false → Reached noted chain n m passes (get_or links (e - 1) 0)
    reached_next h = record {
      within = omega (arith, reached_less, r.within);
      last = back_last noted chain heads links n m e c (omega arith) r.within r.last;
      rest =
          r.rest ∙ ap (λ (k : ℕ). last_below (λ i. noted i && passes i) k) one_back
          ∙ last_not (λ i. noted i && passes i) (e - 1) (rw (h, and-false (noted (e - 1))))
          ∙ last_rest (λ i. noted i && passes i) (get_or links (e - 1) 0) (e - 1) (omega (arith, reached_less))
          (λ j a b. not_passed _ (λ q. back_none noted chain heads links n m e c (omega arith) r.within r.last j a b (is_in_lem j q)));
    }
