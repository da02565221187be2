-- The largest number of a row: rows that agree, a row with one number put in, the row of a table without calls.
-- Assumes nothing.
use Prim.Native.Nat.{ℕ, zero, suc, max, ◌<◌}
use native.Mathlib.Nat.{eq-or-lt_of_le, le_of_suc-le-suc, not-suc-le-zero}
use native.Mathlib.Omega.{arith}
use mathlib.Core.Path.{◌≡◌, refl, sym, ap₂}
use mathlib.Core.Logic.{⊎_elim}
use mathlib.Core.Bool.{false}
use Rattle.table.specs.Table.{Table}
use Rattle.table.specs.Total.{slots}
use Rattle.table.specs.Word.{is_used}
use Rattle.spec_checkpoint.specs.Latest.{largest_below, refresh_in, latest_refresh}

pub largest_ext : (f g : ℕ → ℕ) (n : ℕ) → ((i : ℕ) → i < n → f i ≡ g i) → largest_below f n ≡ largest_below g n
unfolding largest_below
largest_ext f g zero e = refl
largest_ext f g (suc n) e = ap₂ max (largest_ext f g n (λ i h. e i (omega arith))) (e n (omega arith))

pub largest_none : (f : ℕ → ℕ) (n : ℕ) → ((i : ℕ) → i < n → f i ≡ 0) → largest_below f n ≡ 0
unfolding largest_below
largest_none f zero e = refl
largest_none f (suc n) e = omega (arith, largest_none f n (λ i h. e i (omega arith)), e n (omega arith))

-- where a 0 stood, another number stands
pub largest_put : (f g : ℕ → ℕ) (k n : ℕ) → k < n → f k ≡ 0 → ((i : ℕ) → (i ≡ k → ⊥) → g i ≡ f i) → largest_below g n ≡ max (largest_below f n) (g k)
unfolding largest_below
largest_put f g k zero h none other = absurd (not-suc-le-zero h)
largest_put f g k (suc n) h none other =
    ⊎_elim
    (λ (q : k ≡ n). rw (← q) (omega (arith, none, largest_ext f g k (λ i l. sym (other i (λ e. omega arith))))))
    (λ (q : k < n). omega (arith, largest_put f g k n q none other, other n (λ e. omega arith)))
    (eq-or-lt_of_le (le_of_suc-le-suc h))

-- a table with no slot used
pub latest_none : (t : Table) → ((i : ℕ) → is_used t.occupied i ≡ false) → latest_refresh t ≡ 0
latest_none t free = largest_none (refresh_in t) slots (λ i h. rw (free i))
