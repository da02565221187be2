use Rattle.std.proofs.Common.{◌≡◌, ℕ, suc, ◌+◌, ◌-◌, ◌<◌, ◌≤◌, true, false, List, get_or, sym, ◌∙◌, arith, eq-eqb, ne_eqb}
use native.Mathlib.Nat.{add-sub_cancel_left}
use Rattle.numbers.specs.Search.{zeros_at}
use Rattle.numbers.proofs.search.zeros.Goals as goal

left : (end i : ℕ) → i < end → end - i ≡ suc (end - (i + 1))
left end i h = omega arith

hit : (s : List ℕ) (end i : ℕ) → i < end → (get_or s i 0 ≡ 0 → ⊥) → zeros_at s i (end - i) ≡ false
unfolding zeros_at
hit s end i h e = rw (left end i h, ne_eqb (get_or s i 0) 0 e)

miss : (s : List ℕ) (end i : ℕ) → i < end → get_or s i 0 ≡ 0 → zeros_at s i (end - i) ≡ zeros_at s (i + 1) (end - (i + 1))
unfolding zeros_at
miss s end i h e = rw (left end i h, eq-eqb (get_or s i 0) 0 e)

none_left : (end i : ℕ) → end ≤ i → end - i ≡ 0
none_left end i h = omega arith

all : (s : List ℕ) (end i : ℕ) → end ≤ i → zeros_at s i (end - i) ≡ true
unfolding zeros_at
all s end i h = rw (none_left end i h)

pub loop-i-init : goal.loop-i-init
loop-i-init c = rw add-sub_cancel_left

pub returns-then-s-i-ne0 : goal.returns-then-s-i-ne0
returns-then-s-i-ne0 c = sym (sym c.loop-i.invariant ∙ hit _ _ _ c.loop-i-test.true c.if-s-i-ne0.true)

pub loop-i-preserved : goal.loop-i-preserved
loop-i-preserved c = sym (miss _ _ _ c.loop-i-test.true c.if-s-i-ne0.false) ∙ c.loop-i.invariant

pub returns : goal.returns
returns c = sym (all _ _ _ c.loop-i-test.false) ∙ c.loop-i.invariant
