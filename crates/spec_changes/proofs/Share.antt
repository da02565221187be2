-- The sum S as calls come and go, and why it leaves a free slot.
-- Assumes nothing.
use Prim.Native.Nat.{ℕ, suc, max, ◌+◌, ◌≤◌, ◌<◌}
use native.Mathlib.Omega.{arith}
use mathlib.Core.Path.{◌≡◌, refl}
use mathlib.Core.List.{List, [], ◌∷◌}
use mathlib.Core.Bool.{Bool, true, false, cond, not}
use lib.ListN.{length}
use borrow.Author.Tests.{eqb-true, eq-eqb}
use Rattle.lists.specs.Count.{bit, count_if}
use Rattle.lists.proofs.Count.{has_true}
use Rattle.table.specs.Lists.{Terms, Entry}
use Rattle.table.specs.Share.{is_at, is_listed, guarantee_of, from, S}
use Rattle.table.specs.Rules.{unlisted}

-- ---- S goes by the counts alone, and rises with them

pub S-mono : (r : List Terms) (l k : List Entry) → ((p : Entry → Bool) → count_if p l ≤ count_if p k) → S r l ≤ S r k
unfolding S
S-mono [] l k h = omega arith
S-mono (c ∷ r) l k h = let i = S-mono r l k h in let j = h (from c.address) in omega arith

pub S-same : (r : List Terms) (l k : List Entry) → ((p : Entry → Bool) → count_if p l ≡ count_if p k) → S r l ≡ S r k
unfolding S
S-same [] l k h = refl
S-same (c ∷ r) l k h = let i = S-same r l k h in let j = h (from c.address) in omega arith

-- ---- one call more

-- a customer of another address is not touched
S-other : (r : List Terms) (l : List Entry) (e : Entry) → count_if (is_at e.ids.sender) r ≡ 0 → S r (e ∷ l) ≡ S r l
unfolding S
S-other [] l e h = refl
S-other (c ∷ r) l e h = by (is_at e.ids.sender c) h (S-other r l e)
  where
    by : (b : Bool) → bit b + count_if (is_at e.ids.sender) r ≡ 0 → (count_if (is_at e.ids.sender) r ≡ 0 → S r (e ∷ l) ≡ S r l)
        → max (bit b + count_if (from c.address) l) c.guarantee + S r (e ∷ l) ≡ max (count_if (from c.address) l) c.guarantee + S r l
    by true h i = omega arith
    by false h i = let j = i (omega arith) in omega arith

-- the rest of a roster whose addresses are apart does not have the first one's
rest_apart : (c : Terms) (r : List Terms) → ((a : ℕ) → count_if (is_at a) (c ∷ r) ≤ 1) → count_if (is_at c.address) r ≡ 0
rest_apart c r d = omega (arith, (rw (eq-eqb c.address c.address refl) at (d c.address)))

-- at most one more: none more below the guarantee, and one from there on
pub S-open : (r : List Terms) (l : List Entry) (e : Entry) → ((a : ℕ) → count_if (is_at a) r ≤ 1) → 0 < count_if (is_at e.ids.sender) r
    → (S r (e ∷ l) ≤ suc (S r l))
    × (count_if (from e.ids.sender) l < guarantee_of r e.ids.sender → S r (e ∷ l) ≡ S r l)
    × (guarantee_of r e.ids.sender ≤ count_if (from e.ids.sender) l → S r (e ∷ l) ≡ suc (S r l))
unfolding S
S-open [] l e d h = let z : ⊥ = omega arith in absurd z
S-open (c ∷ r) l e d h = by (is_at e.ids.sender c) refl h (S-open r l e (λ a. omega (arith, d a)))
  where
    by : (b : Bool) → is_at e.ids.sender c ≡ b → 0 < bit b + count_if (is_at e.ids.sender) r
        → (0 < count_if (is_at e.ids.sender) r
        → (S r (e ∷ l) ≤ suc (S r l))
        × (count_if (from e.ids.sender) l < guarantee_of r e.ids.sender → S r (e ∷ l) ≡ S r l)
        × (guarantee_of r e.ids.sender ≤ count_if (from e.ids.sender) l → S r (e ∷ l) ≡ suc (S r l)))
        → (max (bit b + count_if (from c.address) l) c.guarantee + S r (e ∷ l) ≤ suc (max (count_if (from c.address) l) c.guarantee + S r l))
        × (count_if (from e.ids.sender) l < cond b c.guarantee (guarantee_of r e.ids.sender)
        → max (bit b + count_if (from c.address) l) c.guarantee + S r (e ∷ l) ≡ max (count_if (from c.address) l) c.guarantee + S r l)
        × (cond b c.guarantee (guarantee_of r e.ids.sender) ≤ count_if (from e.ids.sender) l
        → max (bit b + count_if (from c.address) l) c.guarantee + S r (e ∷ l) ≡ suc (max (count_if (from c.address) l) c.guarantee + S r l))
    by true q h i =
        let same : e.ids.sender ≡ c.address = eqb-true _ _ q in
        let rest : count_if (is_at e.ids.sender) r ≡ 0 = rw same (rest_apart c r d) in
        let o = S-other r l e rest in (
          omega arith,
          λ k. let m : count_if (from c.address) l < c.guarantee = rw same at k in omega arith,
          λ k. let m : c.guarantee ≤ count_if (from c.address) l = rw same at k in omega arith,
        )
    by false q h i =
        let j = i (omega arith) in
        (omega (arith, j.0), λ k. let m = j.1 k in omega arith, λ k. let m = j.2 k in omega arith)

-- ---- a free slot

-- the calls of all customers
of_all : List Terms → List Entry → ℕ
of_all [] l = 0
of_all (c ∷ r) l = count_if (from c.address) l + of_all r l

one_more : (r : List Terms) (l : List Entry) (e : Entry) → of_all r (e ∷ l) ≡ count_if (is_at e.ids.sender) r + of_all r l
unfolding of_all
one_more [] l e = refl
one_more (c ∷ r) l e = let i = one_more r l e in omega arith

all_listed : (r : List Terms) (l : List Entry) → count_if (unlisted r) l ≡ 0 → length l ≤ of_all r l
all_listed r [] h = omega arith
all_listed r (e ∷ l) h = by (is_listed r e.ids.sender) refl h (all_listed r l)
  where
    by : (b : Bool) → is_listed r e.ids.sender ≡ b → bit (not b) + count_if (unlisted r) l ≡ 0
        → (count_if (unlisted r) l ≡ 0 → length l ≤ of_all r l) → suc (length l) ≤ of_all r (e ∷ l)
    by true q h i = let j = i (omega arith) in let k = has_true _ r q in let m = one_more r l e in omega arith
    by false q h i = omega arith

all_within : (r : List Terms) (l : List Entry) → of_all r l ≤ S r l
unfolding S of_all
all_within [] l = omega arith
all_within (c ∷ r) l = let i = all_within r l in omega arith

-- a guarantee not used up
all_below : (r : List Terms) (l : List Entry) (a : ℕ) → count_if (from a) l < guarantee_of r a → of_all r l < S r l
unfolding S of_all
all_below [] l a h = omega arith
all_below (c ∷ r) l a h = by (is_at a c) refl h (all_below r l a)
  where
    by : (b : Bool) → is_at a c ≡ b → count_if (from a) l < cond b c.guarantee (guarantee_of r a)
        → (count_if (from a) l < guarantee_of r a → of_all r l < S r l)
        → count_if (from c.address) l + of_all r l < max (count_if (from c.address) l) c.guarantee + S r l
    by true q h i =
        let same : a ≡ c.address = eqb-true _ _ q in
        let k : count_if (from c.address) l < c.guarantee = rw same at h in
        let m = all_within r l in omega arith
    by false q h i = let m = i h in omega arith

-- S counts every call of a listed sender, and one more below a guarantee
pub calls_within : (r : List Terms) (l : List Entry) → count_if (unlisted r) l ≡ 0 → length l ≤ S r l
calls_within r l h = omega (arith, all_listed r l h, all_within r l)

pub calls_below : (r : List Terms) (l : List Entry) (a : ℕ) → count_if (unlisted r) l ≡ 0 → count_if (from a) l < guarantee_of r a → length l < S r l
calls_below r l a h g = omega (arith, all_listed r l h, all_below r l a g)
