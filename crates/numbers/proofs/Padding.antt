-- A name without its padding: what is cut off and what stays (02, A1).
-- Assumes nothing.
use Rattle.std.proofs.Common.{◌≡◌, ℕ, zero, suc, ◌+◌, ◌-◌, ◌<◌, ◌≤◌, Bool, true, false, cond, eqb, ltb, List, get_or, refl, arith, ltb-false, ltb-true, eqb-true}
use borrow.Author.Tests.{eqb-false}
use Rattle.numbers.specs.Search.{unpadded}
use Rattle.numbers.specs.Claims.{CutOff, UnpaddedSays, UnpaddedOnly}

module _ (s : List ℕ) (at : ℕ) where
  says : (n : ℕ) → CutOff s at n (unpadded s at n)
  unfolding unpadded
  says zero = record { most = omega arith; zeros = λ i a b. let z : ⊥ = omega arith in absurd z; last = λ k e. let z : ⊥ = omega (arith, e) in absurd z }
  says (suc n) = by (eqb (get_or s (at + n) 0) 0) refl (says n)
    where
      by : (b : Bool) → eqb (get_or s (at + n) 0) 0 ≡ b → CutOff s at n (unpadded s at n) → CutOff s at (suc n) (cond b (unpadded s at n) (suc n))
      by true e i = record { most = omega (arith, i.most); zeros = λ k a b. here k (eqb k n) refl a b; last = i.last }
        where
          here : (k : ℕ) (c : Bool) → eqb k n ≡ c → unpadded s at n ≤ k → k < suc n → get_or s (at + k) 0 ≡ 0
          here k true q a b = rw (eqb-true k n q) (eqb-true _ _ e)
          here k false q a b = let m : k ≡ n → ⊥ = eqb-false k n q in i.zeros k a (omega arith)
      by false e i = record { most = omega arith; zeros = λ k a b. let z : ⊥ = omega arith in absurd z; last = λ k q. let p : k ≡ n = omega (arith, q) in rw p (eqb-false _ _ e) }

pub unpadded_says : UnpaddedSays
unpadded_says s at n = says s at n

-- of two numbers that are so, neither is the smaller one: the larger one's last byte would be cut off by the other
not_less : (s : List ℕ) (at n m k : ℕ) → CutOff s at n m → CutOff s at n k → m < k → ⊥
not_less s at n m k c d h =
    let j = k - 1 in
    let e : k ≡ suc j = omega arith in
    d.last j e (c.zeros j (omega (arith, e)) (omega (arith, e, d.most)))

pub unpadded_only : UnpaddedOnly
unpadded_only s at n m c = by (ltb m k) (ltb k m) refl refl
  where
    k : ℕ
    k = unpadded s at n

    by : (a b : Bool) → ltb m k ≡ a → ltb k m ≡ b → m ≡ k
    by true b p q = absurd (not_less s at n m k c (unpadded_says s at n) (ltb-true m k p))
    by false true p q = absurd (not_less s at n k m (unpadded_says s at n) c (ltb-true k m q))
    by false false p q = omega (arith, ltb-false m k p, ltb-false k m q)
