-- What a slot takes of a pair's numbers.
-- Assumes nothing.
use Prim.Native.Nat.{ℕ, ◌≤◌}
use native.Mathlib.Omega.{arith}
use mathlib.Core.Path.{◌≡◌, ◌∙◌}
use mathlib.Core.Bool.{Bool, true, false, not, ◌&&◌, and_assoc}
use lib.Dec.{eqb}
use borrow.Author.Tests.{ne_eqb, not-true, not-false}
use Rattle.table.specs.Table.{Call}
use Rattle.table.specs.Lists.{ids_of}
use Rattle.table.specs.Rules.{same_bytes, same_short, same_long}
use Rattle.spec_calls.specs.Made.{made_name, made_ids}
use Rattle.std.proofs.Common.{Option, Some}
use Rattle.make_ids.specs.Digits.{DigitsOf}
use Rattle.make_ids.specs.Taken.{NumberIn, Marked, Takes}
use Rattle.make_ids.specs.declared.digits.PairDigits.{PairDigits}

module _ (used : Bool) (endpoint sender : ℕ) (d : Call) where
  abbrev pair : Bool
  pair = used && (eqb endpoint d.endpoint && eqb sender d.sender)

  short_by_pair : (n : ℕ) → (pair && eqb n d.id) ≡ (used && same_short (made_ids endpoint sender n) (ids_of d))
  unfolding same_short
  short_by_pair n = and_assoc used (eqb endpoint d.endpoint && eqb sender d.sender) _

  long_by_pair : (n : ℕ) → (pair && same_bytes (made_name endpoint sender n) (ids_of d).long) ≡ (used && same_long (made_ids endpoint sender n) (ids_of d))
  unfolding same_long
  long_by_pair n = and_assoc used (eqb endpoint d.endpoint && eqb sender d.sender) _

  none : (n : ℕ) → 1 ≤ n → (b : Bool) → not pair ≡ true → eqb n 0 ≡ (pair && b)
  none n a b h = ne_eqb n 0 (λ e. omega arith) ∙ rw (not-true pair h)

  -- a free slot, or a call of another pair
  pub takes_none : not pair ≡ true → Takes used endpoint sender d (record { short = 0; name = 0 })
  takes_none h = record {
    short = λ n a b. none n a _ h ∙ short_by_pair n;
    name = λ n a b. none n a _ h ∙ long_by_pair n;
    short_inside = omega arith;
    name_inside = omega arith;
  }

  -- a call of the pair
  pub takes_two : (p : PairDigits) (m : Option ℕ) (x y : ℕ) → DigitsOf endpoint sender p → not pair ≡ false → Marked (Some d.id) x → NumberIn p d m → Marked m y
      → Takes used endpoint sender d (record { short = x; name = y })
  takes_two p m x y g h short number name =
      let here = not-false pair h in
      record {
        short = λ n a b. short.same n a b ∙ rw here at (short_by_pair n);
        name = λ n a b. name.same n a b ∙ number endpoint sender n g a (omega arith) ∙ rw here at (long_by_pair n);
        short_inside = short.inside;
        name_inside = name.inside;
      }
