-- The calls of each roster record, counted slot by slot.
-- Assumes nothing.
use Prim.Native.Nat.{ℕ, zero, suc, ◌+◌, ◌≤◌, ◌<◌}
use native.Mathlib.Omega.{arith}
use mathlib.Core.Path.{◌≡◌, refl, ap}
use mathlib.Core.List.{List, [], ◌∷◌, append-nil}
use mathlib.Core.Bool.{Bool, true, false, cond, ◌&&◌}
use lib.Dec.{eqb}
use lib.ListN.{length, get_or, replicate}
use Rattle.lists.specs.Count.{bit}
use Rattle.lists.specs.Below.{below}
use Rattle.lists.proofs.Tests.{eqb_swap}
use Rattle.lists.proofs.Count.{one_bit}
use Rattle.lists.proofs.Below.{count_element, element_not, below_more, below_ext, count_none, count_below_lem, count_turn, length_each, get_d_each}
use Rattle.table.specs.Table.{Table}
use Rattle.table.specs.Total.{slots}
use Rattle.table.specs.Word.{is_used}
use Rattle.table.specs.Lists.{customer_at, Entry, call_at, entry_of, open_at, entries}
use Rattle.table.specs.Share.{from, calls_of}
use Rattle.rule_limits.specs.Tally.{addresses_of, calls_each, tallied}

abbrev entry_at : Table → ℕ → Entry
entry_at t i = entry_of i (call_at t i)

-- a number that a test lets through, or 0
pub cond_most : (b : Bool) (n : ℕ) → cond b n 0 ≤ n
cond_most true n = omega arith
cond_most false n = omega arith

-- no slot has more than one call
pub calls_most : (t : Table) (address i : ℕ) → calls_of (below (open_at t) i) address ≤ i
calls_most t address zero = omega (arith, count_none (open_at t) (from address))
calls_most t address (suc i) =
    let b = is_used t.occupied i in
    let e = entry_at t i in
    omega (arith, count_below_lem (open_at t) (from address) i, count_element (from address) b e, one_bit (b && from address e), calls_most t address i)

module _ (t : Table) (l : List Entry) where
  pub each_length : length (calls_each t l) ≡ 8
  unfolding calls_each
  each_length = length_each (λ k. calls_of l (customer_at t k).address) 8

  pub each_at : (k : ℕ) → k < 8 → get_or (calls_each t l) k 0 ≡ calls_of l (customer_at t k).address
  unfolding calls_each
  each_at k h = get_d_each (λ k. calls_of l (customer_at t k).address) 8 k 0 h

pub each_none : (t : Table) → replicate 8 0 ≡ calls_each t (below (open_at t) 0)
unfolding calls_each below
each_none t = refl

address_at_lem : (t : Table) (k : ℕ) → k < 8 → get_or (addresses_of t) k 0 ≡ (customer_at t k).address
unfolding addresses_of
address_at_lem t k h = get_d_each (λ k. (customer_at t k).address) 8 k 0 h

-- a slot with a call, and a free one
pub each_used : (t : Table) (i : ℕ) → is_used t.occupied i ≡ true
    → tallied (calls_each t (below (open_at t) i)) (addresses_of t) (call_at t i).sender ≡ calls_each t (below (open_at t) (i + 1))
unfolding calls_each tallied
each_used t i u = below_ext _ _ 8 (λ k h. ap (λ (n : ℕ). n ∷ []) (turn k h))
  where
    turn : (k : ℕ) → k < 8
        → get_or (calls_each t (below (open_at t) i)) k 0 + bit (eqb (get_or (addresses_of t) k 0) (call_at t i).sender) ≡ calls_of (below (open_at t) (i + 1)) (customer_at t k).address
    turn k h =
        let a = (customer_at t k).address in
        count_turn (open_at t) (from a) i _ _ (is_used t.occupied i) (entry_at t i) refl (each_at t (below (open_at t) i) k h)
        (rw (u, address_at_lem t k h) (ap bit (eqb_swap a (call_at t i).sender)))

pub each_free : (t : Table) (i : ℕ) → is_used t.occupied i ≡ false → calls_each t (below (open_at t) i) ≡ calls_each t (below (open_at t) (i + 1))
each_free t i u = rw (below_more (open_at t) i, element_not (is_used t.occupied i) (entry_at t i) u, append-nil (below (open_at t) i))

-- what one record's count is, and that it fits the table
pub each_calls : (t : Table) (counts : List ℕ) (k : ℕ) → counts ≡ calls_each t (entries t) → k < 8
    → (get_or counts k 0 ≡ calls_of (entries t) (customer_at t k).address) × (get_or counts k 0 ≤ slots)
each_calls t counts k e h =
    let a = rw (← e) at (each_at t (entries t) k h) in
    (a, omega (arith, a, calls_most t (customer_at t k).address slots))
