-- `is_behind` is the signed reading of a difference (02, A8).
-- Assumes nothing.
use Prim.Native.Nat.{ℕ, ◌+◌, ◌-◌, ◌%◌, ◌≤◌, ◌<◌}
use native.Mathlib.Omega.{arith}
use mathlib.Core.Path.{◌≡◌, refl, ap₂}
use mathlib.Core.Bool.{Bool, true, false, ◌&&◌}
use lib.Dec.{ltb}
use borrow.Author.Tests.{ltb-true, lt-ltb, le-ltb}
use Rattle.lists.proofs.Tests.{both}
use Rattle.spec_calls.specs.Late.{is_behind, LateSigned}

-- how far the new one lies behind the old, around the ring
abbrev gap : ℕ → ℕ → ℕ
gap old new = (old + 4294967296 - new) % 4294967296

between : (old new : ℕ) → 0 < gap old new → gap old new < 2147483648 → is_behind old new ≡ true
unfolding is_behind
between old new l m = ap₂ ◌&&◌ (lt-ltb 0 (gap old new) l) (lt-ltb (gap old new) 2147483648 m)

bounds : (old new : ℕ) → is_behind old new ≡ true → (0 < gap old new) × (gap old new < 2147483648)
unfolding is_behind
bounds old new h = let b = both (ltb 0 (gap old new)) (ltb (gap old new) 2147483648) h in (ltb-true 0 (gap old new) b.0, ltb-true (gap old new) 2147483648 b.1)

and_false : (b : Bool) → (b && false) ≡ false
and_false true = refl
and_false false = refl

none_between : (old new : ℕ) → gap old new ≡ 0 → is_behind old new ≡ false
unfolding is_behind
none_between old new e = rw (le-ltb 0 (gap old new) (omega arith))

past : (old new : ℕ) → 2147483648 ≤ gap old new → is_behind old new ≡ false
unfolding is_behind
past old new l = rw (le-ltb (gap old new) 2147483648 l) (and_false (ltb 0 (gap old new)))

pub late_signed : LateSigned
late_signed old new l m = record {
  ahead = λ h. let b = bounds old new h in (gap old new, b.0, b.1, omega arith);
  behind = λ d p q e. between old new (omega arith) (omega arith);
  one_way = λ h. let b = bounds old new h in past new old (omega (arith, b.0, b.1));
  retry = λ e. none_between old new (omega arith);
}
