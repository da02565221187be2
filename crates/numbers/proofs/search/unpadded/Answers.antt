use Rattle.std.proofs.Common.{◌≡◌, ℕ, suc, ◌+◌, ◌-◌, ◌<◌, ◌≤◌, List, get_or, sym, ◌∙◌, arith, add-one, eq-eqb, ne_eqb}
use Rattle.numbers.specs.Search.{unpadded}
use Rattle.numbers.proofs.search.unpadded.Goals as goal

one_more : (k : ℕ) → 0 < k → k ≡ suc (k - 1)
one_more k h = omega arith

-- the last of k bytes is zero, or not
skipped : (s : List ℕ) (at k : ℕ) → 0 < k → get_or s (at + (k - 1)) 0 ≡ 0 → unpadded s at k ≡ unpadded s at (k - 1)
unfolding unpadded
skipped s at k h e = by (k - 1) (one_more k h) e
  where
    by : (m : ℕ) → k ≡ suc m → get_or s (at + m) 0 ≡ 0 → unpadded s at k ≡ unpadded s at m
    by m q e = rw (q, eq-eqb (get_or s (at + m) 0) 0 e)

found : (s : List ℕ) (at k : ℕ) → 0 < k → (get_or s (at + (k - 1)) 0 ≡ 0 → ⊥) → unpadded s at k ≡ k - 1 + 1
unfolding unpadded
found s at k h e = by (k - 1) (one_more k h) e
  where
    by : (m : ℕ) → k ≡ suc m → (get_or s (at + m) 0 ≡ 0 → ⊥) → unpadded s at k ≡ m + 1
    by m q e = rw (q, ne_eqb (get_or s (at + m) 0) 0 e, add-one)

none : (s : List ℕ) (at k : ℕ) → k ≤ 0 → unpadded s at k ≡ 0
unfolding unpadded
none s at k h = let z : k ≡ 0 = omega arith in rw z

pub returns-then-s-at-ne0 : goal.returns-then-s-at-ne0
returns-then-s-at-ne0 c = sym (found _ _ _ c.loop-k-test.true c.if-s-at-ne0.true) ∙ c.loop-k.invariant

pub loop-k-preserved : goal.loop-k-preserved
loop-k-preserved c = sym (skipped _ _ _ c.loop-k-test.true c.if-s-at-ne0.false) ∙ c.loop-k.invariant

pub returns : goal.returns
returns c = sym (none _ _ _ c.loop-k-test.false) ∙ c.loop-k.invariant
