-- The places of a four: how many are taken, the first that is free, places that are valid.
-- Assumes nothing.
use Prim.Native.Nat.{ℕ, ◌+◌, ◌≤◌, ◌<◌}
use native.Mathlib.Omega.{arith}
use mathlib.Core.Path.{◌≡◌, refl, sym, ◌∙◌}
use mathlib.Core.Bool.{Bool, true, false, ◌&&◌, true≢false}
use mir.Val.{bool_byte}
use lib.Dec.{eqb, ltb}
use borrow.Author.Tests.{eq-eqb, ne_eqb}
use Rattle.lists.specs.Count.{bit, count_if}
use Rattle.lists.specs.Below.{below, first_below}
use Rattle.lists.proofs.Below.{count_turn}
use Rattle.lists.proofs.Search.{first_found, first_least}
use Rattle.table.specs.Table.{Place}
use Rattle.table.specs.Lists.{Four, place_at, is_taken, connection_at, held_place}
use Rattle.table.specs.Rules.{place_clear, place_valid}

-- a number below the bound that passes, where none below it does
pub first_is : (p : ℕ → Bool) (n i : ℕ) → i < n → p i ≡ true → ((k : ℕ) → k < i → p k ≡ false) → (i ≡ first_below p n) × (i < n)
first_is p n i l e none =
    let f = first_found p n i l e in
    let least : first_below p n < i → ⊥ = λ h. true≢false (sym f.passes ∙ none _ h) in
    let most : i < first_below p n → ⊥ = λ h. true≢false (sym e ∙ first_least p n i h) in
    (omega arith, l)

pub first_no : (p : ℕ → Bool) → ((k : ℕ) → k < 4 → p k ≡ false) → 0 ≡ first_below p 4
unfolding first_below below
first_no p h = rw (h 0 (omega arith), h 1 (omega arith), h 2 (omega arith), h 3 (omega arith))

-- one more place counted
pub taken_turn : (f : Four) (j n : ℕ) (b : Bool) (r : ℕ) → n ≡ count_if (λ x. true) (below (held_place f) j) → b ≡ is_taken (place_at f j) → r ≡ bool_byte b
    → (n + r ≡ count_if (λ x. true) (below (held_place f) (j + 1))) × (r ≤ 1)
taken_turn f j n b r e h q =
    let one : bool_byte b ≡ bit (b && true) = by b in
    (count_turn (held_place f) (λ x. true) j n r b (connection_at f j) (rw h) e (q ∙ one), rw q (most b))
  where
    by : (b : Bool) → bool_byte b ≡ bit (b && true)
    by true = refl
    by false = refl

    most : (b : Bool) → bool_byte b ≤ 1
    most true = omega arith
    most false = omega arith

-- ---- places that are valid

module _ (p : Place) where
  pub valid_taken : p.taken ≡ 1 → (ltb p.tunnel 0x10000 && ltb p.lsp 0x10000) ≡ place_valid p
  unfolding place_valid
  valid_taken h = rw (eq-eqb p.taken 1 h)

  pub valid_free : (p.taken ≡ 1 → ⊥) → (eqb p.taken 0 && eqb p.tunnel 0 && eqb p.extended 0 && eqb p.lsp 0) ≡ place_valid p
  unfolding place_valid place_clear
  valid_free h = rw (ne_eqb p.taken 1 h)
