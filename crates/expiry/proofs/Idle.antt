-- What the tests of a slot come to.
-- Assumes nothing.
use Prim.Native.Nat.{ℕ, ◌+◌, ◌-◌, ◌*◌, ◌<◌}
use native.Mathlib.Omega.{arith}
use mathlib.Core.Path.{◌≡◌, refl, sym, ap, ◌∙◌}
use mathlib.Core.Bool.{Bool, true, false, not, ◌&&◌}
use lib.Dec.{eqb, leb}
use borrow.Author.Tests.{ne_eqb, leb-true, leb-false, le-leb, lt-leb}
use Rattle.lists.specs.Count.{bit, count_if}
use Rattle.lists.specs.Below.{every_below}
use Rattle.lists.proofs.Shown.{count_four}
use Rattle.table.specs.Table.{Call}
use Rattle.table.specs.Lists.{Held, call_four, place_at, is_taken, connection_at, held_in}
use Rattle.spec_changes.specs.Expiry.{is_idle, is_expired}

-- no place is taken where none is counted
pub idle_count : (c : Call) → eqb (count_if (λ (x : Held). true) (held_in (call_four c))) 0 ≡ is_idle c
unfolding is_idle every_below
idle_count c = ap (λ n. eqb n 0) (sym (count_four taken (connection_at (call_four c)))) ∙ by (taken 0) (taken 1) (taken 2) (taken 3)
  where
    taken : ℕ → Bool
    taken j = is_taken (place_at (call_four c) j)

    by : (a b d e : Bool) → eqb (bit a + bit b + bit d + bit e) 0 ≡ (not a && not b && not d && not e)
    by true b d e = ne_eqb (1 + bit b + bit d + bit e) 0 (λ z. omega arith)
    by false true d e = ne_eqb (0 + 1 + bit d + bit e) 0 (λ z. omega arith)
    by false false true e = ne_eqb (0 + 0 + 1 + bit e) 0 (λ z. omega arith)
    by false false false true = refl
    by false false false false = refl

-- five periods behind the refresh, where the period is not 0
long_is : (refreshed period time : ℕ) → 0 < period → leb (refreshed + 5 * period) time ≡ leb (5 * period) (time - refreshed)
long_is refreshed period time h = by (leb (refreshed + 5 * period) time) refl
  where
    by : (b : Bool) → leb (refreshed + 5 * period) time ≡ b → b ≡ leb (5 * period) (time - refreshed)
    by true e = sym (le-leb (5 * period) (time - refreshed) (omega (arith, leb-true (refreshed + 5 * period) time e)))
    by false e = sym (lt-leb (5 * period) (time - refreshed) (omega (arith, leb-false (refreshed + 5 * period) time e)))

-- the two tests of a slot together, by what the first of them says
module _ (used long idle : Bool) (c : Call) (time period : ℕ) (h : 0 < period) (e : long ≡ leb (c.refreshed + 5 * period) time) where
  long_enough : long ≡ leb (5 * period) (time - c.refreshed)
  long_enough = e ∙ long_is c.refreshed period time h

  pub not_expired : (used && long) ≡ false → false ≡ (used && is_expired time period c)
  unfolding is_expired
  not_expired n = rw (← long_enough) (by used long n)
    where
      by : (u l : Bool) → (u && l) ≡ false → false ≡ (u && (l && is_idle c))
      by true true n = cc
      by true false n = refl
      by false l n = refl

  pub expired_idle : (used && long) ≡ true → idle ≡ is_idle c → idle ≡ (used && is_expired time period c)
  unfolding is_expired
  expired_idle n i = rw (← long_enough) (by used long n)
    where
      by : (u l : Bool) → (u && l) ≡ true → idle ≡ (u && (l && is_idle c))
      by true true n = i
      by true false n = cc
      by false l n = cc
