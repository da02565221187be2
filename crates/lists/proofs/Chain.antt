-- Places in chains: the last place of a chain (`last-..`), a place noted behind the others or passed over
-- (`chain_start`, `chain_noted`, `chain_passed`), and the way back through a chain (`back-..`): whoever stands in it is
-- met.
-- Assumes nothing.
use Prim.Native.Nat.{ℕ, zero, suc, ◌-◌, ◌≤◌, ◌<◌}
use native.Mathlib.Nat.{not-suc-le-zero, eq-or-lt_of_le, le_of_suc-le-suc}
use native.Mathlib.Omega.{arith}
use mathlib.Core.Path.{◌≡◌, refl, sym, ap, ◌∙◌}
use mathlib.Core.Logic.{⊎_elim}
use mathlib.Core.List.{List}
use mathlib.Core.Bool.{Bool, true, false, cond, not, ◌&&◌, ◌||◌, and-true, and-false, or-true, true≢false}
use lib.Dec.{eqb, ltb, leb}
use lib.ListN.{length, get_or, set, length-set}
use lib.Seq.{get_or-set_same, get_or-set_other}
use borrow.Author.Tests.{eqb-true, eqb-false, ltb-true, ltb-false, lt-ltb, le-leb, lt-leb}
use Rattle.lists.specs.Below.{every_below}
use Rattle.lists.specs.Chain.{last_below, in_chain, InChains}
use Rattle.lists.proofs.Tests.{both}
use Rattle.lists.proofs.Below.{every_within}

-- ---- the last place that passes

pub last_none : (p : ℕ → Bool) → last_below p 0 ≡ 0
unfolding last_below
last_none p = refl

pub last_here : (p : ℕ → Bool) (n : ℕ) → p n ≡ true → last_below p (suc n) ≡ suc n
unfolding last_below
last_here p n h = rw h

pub last_not : (p : ℕ → Bool) (n : ℕ) → p n ≡ false → last_below p (suc n) ≡ last_below p n
unfolding last_below
last_not p n h = rw h

module _ (p : ℕ → Bool) where
  pub last_within : (n : ℕ) → last_below p n ≤ n
  unfolding last_below
  last_within zero = omega arith
  last_within (suc n) = by (p n) (last_within n)
    where
      by : (b : Bool) → last_below p n ≤ n → cond b (suc n) (last_below p n) ≤ suc n
      by true i = omega arith
      by false i = omega arith

  -- it is the last one up to itself
  pub last_itself : (n : ℕ) → last_below p n ≡ last_below p (last_below p n)
  unfolding last_below
  last_itself zero = refl
  last_itself (suc n) = by (p n) refl (last_itself n)
    where
      by : (b : Bool) → p n ≡ b → last_below p n ≡ last_below p (last_below p n) → cond b (suc n) (last_below p n) ≡ last_below p (cond b (suc n) (last_below p n))
      by true e i = rw e
      by false e i = i

  -- so it passes
  pub last_passes : (e : ℕ) → suc e ≡ last_below p (suc e) → p e ≡ true
  unfolding last_below
  last_passes e h = by (p e) refl h
    where
      by : (b : Bool) → p e ≡ b → suc e ≡ cond b (suc e) (last_below p e) → p e ≡ true
      by true q k = q
      by false q k = let z : ⊥ = omega (arith, last_within e) in absurd z

  -- and none behind it does
  pub last_is_last : (n j : ℕ) → last_below p n ≤ j → j < n → p j ≡ true → ⊥
  unfolding last_below
  last_is_last zero j h l e = not-suc-le-zero l
  last_is_last (suc n) j h l e = by (p n) refl h (λ k q. last_is_last n j k q e)
    where
      by : (b : Bool) → p n ≡ b → cond b (suc n) (last_below p n) ≤ j → (last_below p n ≤ j → j < n → ⊥) → ⊥
      by true q k i = omega arith
      by false q k i = ⊎_elim (λ (r : j ≡ n). true≢false (sym e ∙ ap p r ∙ q)) (λ (r : j < n). i k r) (eq-or-lt_of_le (le_of_suc-le-suc l))

  -- it is the one that passes, where none behind it does
  pub last_only : (n e : ℕ) → e < n → p e ≡ true → ((j : ℕ) → e < j → j < n → p j ≡ false) → last_below p n ≡ suc e
  unfolding last_below
  last_only zero e l h behind = absurd (not-suc-le-zero l)
  last_only (suc n) e l h behind =
      ⊎_elim
      (λ (q : e ≡ n). rw (← q, h))
      (λ (b : e < n). last_not p n (behind n b (omega arith)) ∙ last_only n e b h (λ j c d. behind j c (omega arith)))
      (eq-or-lt_of_le (le_of_suc-le-suc l))

  -- places that do not pass need not be gone over
  pub last_rest : (n m : ℕ) → n ≤ m → ((j : ℕ) → n ≤ j → j < m → p j ≡ false) → last_below p m ≡ last_below p n
  last_rest n zero h behind = let e : n ≡ 0 = omega arith in rw e
  last_rest n (suc m) h behind =
      ⊎_elim
      (λ (e : n ≡ suc m). rw e)
      (λ l. last_not p m (behind m (le_of_suc-le-suc l) (omega arith)) ∙ last_rest n m (le_of_suc-le-suc l) (λ j a b. behind j a (omega arith)))
      (eq-or-lt_of_le h)

  -- it is within a bound where every place that passes is
  pub last_bound : (n m : ℕ) → leb (last_below p n) m ≡ every_below (λ i. not (p i) || ltb i m) n
  unfolding last_below every_below
  last_bound zero m = le-leb 0 m (omega arith)
  last_bound (suc n) m = by (p n) (last_bound n m)
    where
      passing : (b : Bool) → ltb n m ≡ b → leb (suc n) m ≡ (every_below (λ i. not (p i) || ltb i m) n && b)
      passing true e =
          let l = ltb-true n m e in
          rw (every_within (λ i. not (p i) || ltb i m) n (λ i h. rw (lt-ltb i m (omega arith)) (or-true (not (p i))))) (le-leb (suc n) m l)
      passing false e = let l = ltb-false n m e in lt-leb (suc n) m (omega arith) ∙ sym (and-false (every_below (λ i. not (p i) || ltb i m) n))

      by : (b : Bool) → leb (last_below p n) m ≡ every_below (λ i. not (p i) || ltb i m) n
          → leb (cond b (suc n) (last_below p n)) m ≡ (every_below (λ i. not (p i) || ltb i m) n && (not b || ltb n m))
      by true i = passing (ltb n m) refl
      by false i = i ∙ sym (and-true (every_below (λ i. not (p i) || ltb i m) n))

  pub last_ext : (q : ℕ → Bool) (n : ℕ) → ((i : ℕ) → i < n → p i ≡ q i) → last_below p n ≡ last_below q n
  unfolding last_below
  last_ext q zero h = refl
  last_ext q (suc n) h = rw (h n (omega arith), last_ext q n (λ i l. h i (omega arith)))

-- ---- a place behind the others

module _ (noted : ℕ → Bool) (chain : ℕ → ℕ) where
  -- where all heads are 0, nothing is noted
  pub chain_start : (heads links : List ℕ) → ((m : ℕ) → get_or heads m 0 ≡ 0) → InChains noted chain heads links 0
  chain_start heads links zeros = record {
    head = λ m l. zeros m ∙ sym (last_none (in_chain noted chain m));
    link = λ i l. absurd (not-suc-le-zero l);
  }

  module _ {heads links : List ℕ} {n : ℕ} (c : InChains noted chain heads links n) where
    -- a place that is not noted changes nothing
    pub chain_passed : noted n ≡ false → InChains noted chain heads links (suc n)
    chain_passed none = record { head = λ m l. c.head m l ∙ same m; link = link }
      where
        same : (m : ℕ) → last_below (in_chain noted chain m) n ≡ last_below (in_chain noted chain m) (suc n)
        same m = sym (last_not (in_chain noted chain m) n (ap (λ (b : Bool). b && eqb (chain n) m) none))

        link : (i : ℕ) → i < suc n → noted i ≡ true → get_or links i 0 ≡ last_below (in_chain noted chain (chain i)) i
        link i l h =
            ⊎_elim (λ (e : i ≡ n). absurd (true≢false (sym h ∙ ap noted e ∙ none))) (λ (e : i < n). c.link i e h) (eq-or-lt_of_le (le_of_suc-le-suc l))

    -- a place that is noted is its chain's head, and linked to the head before it
    pub chain_noted : noted n ≡ true → chain n < length heads → n < length links
        → InChains noted chain (set heads (chain n) (suc n)) (set links n (get_or heads (chain n) 0)) (suc n)
    chain_noted is inside room = record { head = head; link = link }
      where
        head : (m : ℕ) → m < length (set heads (chain n) (suc n)) → get_or (set heads (chain n) (suc n)) m 0 ≡ last_below (in_chain noted chain m) (suc n)
        head m l = by (eqb (chain n) m) refl
          where
            by : (b : Bool) → eqb (chain n) m ≡ b → get_or (set heads (chain n) (suc n)) m 0 ≡ last_below (in_chain noted chain m) (suc n)
            by true e =
                ap (λ (k : ℕ). get_or (set heads (chain n) (suc n)) k 0) (sym (eqb-true (chain n) m e)) ∙ get_or-set_same heads (chain n) (suc n) 0 inside
                ∙ sym (last_here (in_chain noted chain m) n (rw (is, e)))
            by false e =
                get_or-set_other heads (chain n) m (suc n) 0 (λ q. eqb-false (chain n) m e (sym q)) ∙ c.head m (rw (length-set heads (chain n) (suc n)) at l)
                ∙ sym (last_not (in_chain noted chain m) n (rw (is, e)))

        link : (i : ℕ) → i < suc n → noted i ≡ true → get_or (set links n (get_or heads (chain n) 0)) i 0 ≡ last_below (in_chain noted chain (chain i)) i
        link i l h = ⊎_elim here before (eq-or-lt_of_le (le_of_suc-le-suc l))
          where
            here : i ≡ n → get_or (set links n (get_or heads (chain n) 0)) i 0 ≡ last_below (in_chain noted chain (chain i)) i
            here e = rw e (get_or-set_same links n (get_or heads (chain n) 0) 0 room ∙ c.head (chain n) inside)

            before : i < n → get_or (set links n (get_or heads (chain n) 0)) i 0 ≡ last_below (in_chain noted chain (chain i)) i
            before b = get_or-set_other links n i (get_or heads (chain n) 0) 0 (λ (e : i ≡ n). omega arith) ∙ c.link i b h

-- ---- the way back: it has come to place e - 1, the last of the chain up to there

module _ (noted : ℕ → Bool) (chain : ℕ → ℕ) (heads links : List ℕ) (n m e : ℕ) (c : InChains noted chain heads links n)
    (some : 0 < e) (within : e ≤ n) (last : e ≡ last_below (in_chain noted chain m) e) where
  one_back : e ≡ suc (e - 1)
  one_back = omega arith

  pub back_in : in_chain noted chain m (e - 1) ≡ true
  back_in = last_passes (in_chain noted chain m) (e - 1) (rw one_back at last)

  link_is : get_or links (e - 1) 0 ≡ last_below (in_chain noted chain m) (e - 1)
  link_is =
      let b = both _ _ back_in in
      c.link (e - 1) (omega arith) b.0 ∙ ap (λ (k : ℕ). last_below (in_chain noted chain k) (e - 1)) (eqb-true (chain (e - 1)) m b.1)

  pub back_less : get_or links (e - 1) 0 < e
  back_less = omega (arith, link_is, last_within (in_chain noted chain m) (e - 1))

  pub back_last : get_or links (e - 1) 0 ≡ last_below (in_chain noted chain m) (get_or links (e - 1) 0)
  back_last = rw link_is (last_itself (in_chain noted chain m) (e - 1))

  -- between the place and the one that it is linked to, none is in the chain
  pub back_none : (j : ℕ) → get_or links (e - 1) 0 ≤ j → j < e - 1 → in_chain noted chain m j ≡ true → ⊥
  back_none j h l = last_is_last (in_chain noted chain m) (e - 1) j (rw link_is at h) l
