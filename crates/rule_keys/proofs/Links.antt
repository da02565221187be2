-- Keys in chains: whoever is equal is met on the way back through the chain.
-- Assumes nothing.
use Prim.Native.Nat.{ℕ, zero, suc, ◌+◌, ◌-◌, ◌≤◌, ◌<◌}
use native.Mathlib.Nat.{eq-or-lt_of_le, le_of_suc-le-suc}
use native.Mathlib.Numerals.{add-one}
use native.Mathlib.Omega.{arith}
use mathlib.Core.Path.{◌≡◌, refl, sym, ap, ◌∙◌}
use mathlib.Core.Logic.{⊎_elim}
use mathlib.Core.List.{List, [], ◌∷◌, ◌++◌}
use mathlib.Core.Bool.{Bool, true, false, not, ◌&&◌}
use lib.Dec.{eqb, ltb}
use lib.ListN.{get_or, take, set, length-set}
use lib.Seq.{get_or-set_same, get_or-set_other, take-suc-set}
use borrow.Author.Tests.{eq-eqb, ne_eqb, eqb-true, eqb-false, ltb-true, ltb-false, not-true, not-false}
use Rattle.lists.specs.Count.{has, no_two}
use Rattle.lists.proofs.Tests.{both, eqb_swap}
use Rattle.lists.proofs.Count.{has_cons}
use Rattle.lists.proofs.Chain.{last_within, last_itself, last_passes, last_is_last, last_here, last_not, last_ext}
use Rattle.lists.proofs.Pairs.{no_two_append, meet_element}
use Rattle.rule_keys.specs.Chains.{chain_of, is_of, last_in, Linked, Chained}

-- ---- the last key of a chain

-- it is of the chain
last_of : (keys : List ℕ) (m e : ℕ) → suc e ≡ last_in keys m (suc e) → chain_of (get_or keys e 0) ≡ m
last_of keys m e h = eqb-true _ m (last_passes (is_of keys m) e h)

-- and no key behind it is
last_behind : (keys : List ℕ) (m n j : ℕ) → last_in keys m n ≤ j → j < n → chain_of (get_or keys j 0) ≡ m → ⊥
last_behind keys m n j h l e = last_is_last (is_of keys m) n j h l (eq-eqb _ m e)

-- ---- a key that no place has

pub none_equal : (keys : List ℕ) (key n : ℕ) → ((j : ℕ) → j < n → get_or keys j 0 ≡ key → ⊥) → has (eqb key) (take n keys) ≡ false
none_equal keys key zero h = refl
none_equal [] key (suc n) h = refl
none_equal (x ∷ keys) key (suc n) h =
    rw (
      has_cons (eqb key) x (take n keys),
      ne_eqb key x (λ e. h 0 (omega arith) (sym e)),
      none_equal keys key n (λ j l. h (suc j) (omega arith)),
    )

-- ---- the test of the way back

pub goes_on : (e left : ℕ) → (not (eqb e 0) && not (eqb left 0)) ≡ true → (0 < e) × (0 < left)
goes_on e left h =
    let k = both _ _ h in
    let p = eqb-false e 0 (not-true _ k.0) in
    let q = eqb-false left 0 (not-true _ k.1) in
    (omega arith, omega arith)

pub ended : (e left : ℕ) → (not (eqb e 0) && not (eqb left 0)) ≡ false → 0 < left → e ≡ 0
ended e left h l = by (eqb e 0) refl h
  where
    by : (b : Bool) → eqb e 0 ≡ b → (not b && not (eqb left 0)) ≡ false → e ≡ 0
    by true q k = eqb-true e 0 q
    by false q k = let z : left ≡ 0 = eqb-true left 0 (not-false _ k) in let w : ⊥ = omega arith in absurd w

-- ---- the way back: it has come to key number `e`, and none behind it is the key

-- no key from number `e` on, below `first`, is the key
abbrev pub NoneBehind : List ℕ → ℕ → ℕ → ℕ → Type 0
NoneBehind keys key first e = (j : ℕ) → e ≤ j → j < first → get_or keys j 0 ≡ key → ⊥

module _ (links keys : List ℕ) (key first e : ℕ) (some : 0 < e) (within : e ≤ first) (linked : Linked links keys first) (of : e ≡ last_in keys (chain_of key) e) where
  one_back : e ≡ suc (e - 1)
  one_back = omega arith

  chain : chain_of (get_or keys (e - 1) 0) ≡ chain_of key
  chain = last_of keys (chain_of key) (e - 1) (rw one_back at of)

  linked_back : get_or links (e - 1) 0 ≡ last_in keys (chain_of key) (e - 1)
  linked_back = linked (e - 1) (omega arith) ∙ ap (λ (m : ℕ). last_in keys m (e - 1)) chain

  pub back_within : get_or links (e - 1) 0 < e
  back_within = omega (arith, linked_back, last_within (is_of keys (chain_of key)) (e - 1))

  pub back_of : get_or links (e - 1) 0 ≡ last_in keys (chain_of key) (get_or links (e - 1) 0)
  back_of = rw linked_back (last_itself (is_of keys (chain_of key)) (e - 1))

  pub back_none : (get_or keys (e - 1) 0 ≡ key → ⊥) → NoneBehind keys key first e → NoneBehind keys key first (get_or links (e - 1) 0)
  back_none here none j h l q = by (ltb j e) refl
    where
      by : (b : Bool) → ltb j e ≡ b → ⊥
      by true p =
          let k : suc j ≤ suc (e - 1) = rw one_back at (ltb-true j e p) in
          ⊎_elim
          (λ (r : j ≡ e - 1). here (rw r at q))
          (λ (r : j < e - 1). last_behind keys (chain_of key) (e - 1) j (rw linked_back at h) r (ap chain_of q))
          (eq-or-lt_of_le (le_of_suc-le-suc k))
      by false p = none j (ltb-false j e p) l q

-- ---- a key noted behind the others

-- what is written behind the first `n` keys changes none of their chains
last_set : (keys : List ℕ) (n key m k : ℕ) → k ≤ n → last_in (set keys n key) m k ≡ last_in keys m k
last_set keys n key m k l =
    last_ext (is_of (set keys n key) m) (is_of keys m) k (λ i b. ap (λ (x : ℕ). eqb (chain_of x) m) (get_or-set_other keys n i key 0 (λ (e : i ≡ n). omega arith)))

module _ {heads links keys : List ℕ} {n : ℕ} (key : ℕ) (c : Chained heads links keys n) (fits : key < 4294967296) (room : n < 1432) where
  -- the last key of the chain that the new one is of
  abbrev first : ℕ
  first = get_or heads (chain_of key) 0

  first_is : first ≡ last_in keys (chain_of key) n
  first_is = c.head (chain_of key) (omega arith)

  pub first_within : first ≤ n
  first_within = omega (arith, first_is, last_within (is_of keys (chain_of key)) n)

  pub first_of : first ≡ last_in keys (chain_of key) first
  first_of = rw first_is (last_itself (is_of keys (chain_of key)) n)

  key_here : get_or (set keys n key) n 0 ≡ key
  key_here = get_or-set_same keys n key 0 (omega (arith, c.sized))

  noted_linked : Linked (set links n first) (set keys n key) (n + 1)
  noted_linked i l = ⊎_elim here before (eq-or-lt_of_le (le_of_suc-le-suc (rw (add-one n) at l)))
    where
      here : i ≡ n → get_or (set links n first) i 0 ≡ last_in (set keys n key) (chain_of (get_or (set keys n key) i 0)) i
      here e =
          rw (e, get_or-set_same links n first 0 (omega (arith, c.sized)), key_here, last_set keys n key (chain_of key) n (omega arith)) first_is

      before : i < n → get_or (set links n first) i 0 ≡ last_in (set keys n key) (chain_of (get_or (set keys n key) i 0)) i
      before b =
          let d : i ≡ n → ⊥ = λ e. omega arith in
          rw (get_or-set_other links n i first 0 d, get_or-set_other keys n i key 0 d, last_set keys n key (chain_of (get_or keys i 0)) i (omega arith)) (c.linked i b)

  noted_head : (m : ℕ) → m < 2048 → get_or (set heads (chain_of key) (n + 1)) m 0 ≡ last_in (set keys n key) m (n + 1)
  noted_head m l = rw (add-one n) (by (eqb (chain_of key) m) refl)
    where
      here : is_of (set keys n key) m n ≡ eqb (chain_of key) m
      here = ap (λ (x : ℕ). eqb (chain_of x) m) key_here

      by : (b : Bool) → eqb (chain_of key) m ≡ b → get_or (set heads (chain_of key) (suc n)) m 0 ≡ last_in (set keys n key) m (suc n)
      by true e =
          rw (← (eqb-true (chain_of key) m e)) (get_or-set_same heads (chain_of key) (suc n) 0 (omega (arith, c.sized)))
          ∙ sym (last_here (is_of (set keys n key) m) n (here ∙ e))
      by false e =
          get_or-set_other heads (chain_of key) m (suc n) 0 (λ q. eqb-false (chain_of key) m e (sym q))
          ∙ c.head m l
          ∙ sym (last_not (is_of (set keys n key) m) n (here ∙ e) ∙ last_set keys n key m n (omega arith))

  pub noted_chained : Chained (set heads (chain_of key) (n + 1)) (set links n first) (set keys n key) (n + 1)
  noted_chained = record {
    sized = (
      length-set heads (chain_of key) (n + 1) ∙ c.sized.0,
      length-set links n first ∙ c.sized.1,
      length-set keys n key ∙ c.sized.2,
    );
    head = noted_head;
    linked = noted_linked;
  }

  pub noted_taken : take (n + 1) (set keys n key) ≡ take n keys ++ key ∷ []
  noted_taken = rw (add-one n) (take-suc-set keys n key (omega (arith, c.sized)))

  -- the key was not noted before, where no key of its chain up to the last one is it
  pub not_noted : ((i : ℕ) → i < first → get_or keys i 0 ≡ key → ⊥) → has (eqb key) (take n keys) ≡ false
  not_noted none = none_equal keys key n (λ j l e. by j l e (ltb j first) refl)
    where
      by : (j : ℕ) → j < n → get_or keys j 0 ≡ key → (b : Bool) → ltb j first ≡ b → ⊥
      by j l e true q = none j (ltb-true j first q) e
      by j l e false q = last_behind keys (chain_of key) n j (rw (← first_is) (ltb-false j first q)) l (ap chain_of e)

-- so no two are equal with it, where none was before
pub apart_more : (l : List ℕ) (key : ℕ) → no_two eqb l ≡ true → has (eqb key) l ≡ false → no_two eqb (l ++ key ∷ []) ≡ true
apart_more l key a h = rw (no_two_append eqb l (key ∷ []), a, meet_element eqb l key (eqb key) (λ y. eqb_swap y key), h)
