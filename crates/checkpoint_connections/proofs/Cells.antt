-- Cells: how far the filled ones go (`filled_most`), what is shown there while free ones are filled (`shown_kept`,
-- `shown_new`), and a search among them (`passed-..`).
-- Assumes nothing.
use Prim.Native.Nat.{ℕ, zero, suc, ◌+◌, ◌-◌, ◌≤◌, ◌<◌}
use native.Mathlib.Omega.{arith}
use native.Mathlib.Nat.{eq-or-lt_of_le}
use mathlib.Core.Path.{◌≡◌, refl, sym, ap, ◌∙◌}
use mathlib.Core.Logic.{⊎_elim}
use mathlib.Core.List.{List, [], ◌∷◌}
use mathlib.Core.Bool.{Bool, true, false, not, true≢false}
use lib.Dec.{ltb}
use lib.ListN.{length, get_or, set, replicate}
use lib.Seq.{get_or-set_same, get_or-set_other}
use borrow.Author.Tests.{ne_eqb, ltb-true, ltb-false}
use Rattle.lists.specs.Count.{bit, count_if}
use Rattle.lists.proofs.Count.{one_bit}
use Rattle.checkpoint_connections.specs.Cells.{is_filled, FilledFrom, FirstFree, ShownFrom}

-- ---- how many are filled

-- as many as lie next to each other, at least
window : (l : List ℕ) (m d : ℕ) → FilledFrom l m (m + d) → d ≤ count_if is_filled l
window l m zero h = omega arith
window [] m (suc d) h = absurd (h m (omega arith) (omega arith) refl)
window (x ∷ l) zero (suc d) h =
    let some = h 0 (omega arith) (omega arith) in
    let one : bit (is_filled x) ≡ 1 = ap (λ (b : Bool). bit (not b)) (ne_eqb x 0 some) in
    omega (arith, one, window l 0 d (λ j a b e. h (suc j) (omega arith) (omega arith) e))
window (x ∷ l) (suc m) (suc d) h = omega (arith, window l m (suc d) (λ j a b e. h (suc j) (omega arith) (omega arith) e))

pub filled_most : (l : List ℕ) (m r : ℕ) → m ≤ r → FilledFrom l m r → r ≤ m + count_if is_filled l
filled_most l m r from h =
    let e : r ≡ m + (r - m) = omega arith in
    omega (arith, window l m (r - m) (rw (sym e) h))

-- one more where a cell is filled
pub set_most : (p : ℕ → Bool) (l : List ℕ) (i v : ℕ) → count_if p (set l i v) ≤ 1 + count_if p l
set_most p [] i v = omega arith
set_most p (x ∷ l) zero v = omega (arith, one_bit (p v))
set_most p (x ∷ l) (suc i) v = omega (arith, set_most p l i v)

pub none_filled : (n : ℕ) → count_if is_filled (replicate n 0) ≡ 0
none_filled zero = refl
none_filled (suc n) = omega (arith, none_filled n)

-- ---- a free cell filled

module _ (cells : List ℕ) (r v : ℕ) (free : get_or cells r 0 ≡ 0) (some : v ≡ 0 → ⊥) where
  -- what is filled stays as it is
  pub cell_kept : (j : ℕ) → (get_or cells j 0 ≡ 0 → ⊥) → get_or (set cells r v) j 0 ≡ get_or cells j 0
  cell_kept j h = get_or-set_other cells r j v 0 (λ (e : j ≡ r). h (ap (λ (k : ℕ). get_or cells k 0) e ∙ free))

  filled_kept : (m n : ℕ) → FilledFrom cells m n → FilledFrom (set cells r v) m n
  filled_kept m n h j a b e = h j a b (sym (cell_kept j (h j a b)) ∙ e)

  pub shown_kept : (shows : ℕ → Bool) (m : ℕ) → ShownFrom shows cells m → ShownFrom shows (set cells r v) m
  shown_kept shows m k = record {
    at = k.at;
    from = k.from;
    filled = filled_kept m (k.at + 1) k.filled;
    shown = ap shows (cell_kept k.at (k.filled k.at k.from (omega arith))) ∙ k.shown;
  }

  pub shown_new : (shows : ℕ → Bool) (m : ℕ) → FirstFree cells m r → r < length cells → shows v ≡ true → ShownFrom shows (set cells r v) m
  shown_new shows m k inside h = record { at = r; from = k.from; filled = filled; shown = ap shows here ∙ h }
    where
      here : get_or (set cells r v) r 0 ≡ v
      here = get_or-set_same cells r v 0 inside

      filled : FilledFrom (set cells r v) m (r + 1)
      filled j a b e =
          ⊎_elim
          (λ (q : j ≡ r). some (sym here ∙ ap (λ (i : ℕ). get_or (set cells r v) i 0) (sym q) ∙ e))
          (λ (q : j < r). filled_kept m r k.filled j a q e)
          (eq-or-lt_of_le (omega arith))

-- ---- what a cell shows

pub shown_more : (shows also : ℕ → Bool) (cells : List ℕ) (m : ℕ) → ((v : ℕ) → shows v ≡ true → also v ≡ true) → ShownFrom shows cells m → ShownFrom also cells m
shown_more shows also cells m h k = record { at = k.at; from = k.from; filled = k.filled; shown = h (get_or cells k.at 0) k.shown }

-- ---- a search from cell m on: it has come to cell j, and none before it is free or shows what is looked for

pub record Passed (shows : ℕ → Bool) (cells : List ℕ) (m j : ℕ) : Type 0 where
  pub from : m ≤ j
  pub filled : FilledFrom cells m j
  pub none : (i : ℕ) → m ≤ i → i < j → shows (get_or cells i 0) ≡ false

pub passed_start : (shows : ℕ → Bool) (cells : List ℕ) (m : ℕ) → Passed shows cells m m
passed_start shows cells m = record { from = omega arith; filled = λ i a b e. omega arith; none = λ i a b. let z : ⊥ = omega arith in absurd z }

module _ (shows : ℕ → Bool) (cells : List ℕ) (m j : ℕ) (k : Passed shows cells m j) where
  pub passed_on : (get_or cells j 0 ≡ 0 → ⊥) → shows (get_or cells j 0) ≡ false → Passed shows cells m (j + 1)
  passed_on some not = record {
    from = omega (arith, k.from);
    filled = λ i a b e. ⊎_elim (λ (q : i ≡ j). some (ap (λ (n : ℕ). get_or cells n 0) (sym q) ∙ e)) (λ (q : i < j). k.filled i a q e) (eq-or-lt_of_le (omega arith));
    none = λ i a b. ⊎_elim (λ (q : i ≡ j). rw q not) (λ (q : i < j). k.none i a q) (eq-or-lt_of_le (omega arith));
  }

  -- it has passed no more cells than are filled
  pub passed_most : j ≤ m + count_if is_filled cells
  passed_most = filled_most cells m j k.from k.filled

  module _ (free : get_or cells j 0 ≡ 0) where
    pub passed_free : FirstFree cells m j
    passed_free = record { from = k.from; filled = k.filled; free = free }

    -- what it has not met is not shown
    pub passed_all : ShownFrom shows cells m → ⊥
    passed_all s = by (ltb s.at j) refl
      where
        by : (b : Bool) → ltb s.at j ≡ b → ⊥
        by true e = true≢false (sym s.shown ∙ k.none s.at s.from (ltb-true s.at j e))
        by false e = let l = ltb-false s.at j e in s.filled j k.from (omega arith) free
