-- The marks of a pair's numbers, and the first number without one.
-- Assumes nothing.
use Prim.Native.Nat.{ℕ, zero, suc, ◌+◌, ◌≤◌, ◌<◌}
use native.Mathlib.Nat.{eq-or-lt_of_le, le_of_suc-le-suc}
use native.Mathlib.Numerals.{add-one}
use native.Mathlib.Omega.{arith}
use mathlib.Core.Path.{◌≡◌, refl, ap, ap₂, ◌∙◌}
use mathlib.Core.Logic.{⊎_elim}
use mathlib.Core.List.{List}
use mathlib.Core.Bool.{Bool, true, false, not, ◌&&◌, ◌||◌, or-false, or-true}
use lib.Dec.{eqb}
use lib.ListN.{length, get_or, set, replicate, length-set}
use lib.Seq.{get_or-set_same, get_or-set_other}
use borrow.Author.Tests.{eqb-true, eqb-false}
use Rattle.lists.specs.Below.{below, first_not}
use Rattle.lists.proofs.Below.{has_none, has_turn}
use Rattle.lists.proofs.Search.{not_only}
use Rattle.table.specs.Table.{Table}
use Rattle.table.specs.Total.{slots}
use Rattle.table.specs.Word.{is_used, FreeFrom}
use Rattle.table.specs.Lists.{call_at, entry_of, open_at, entries}
use Rattle.table.specs.Rules.{same_short, same_long}
use Rattle.table.proofs.Slots.{open_rest}
use Rattle.spec_changes.proofs.Slot.{open_most}
use Rattle.spec_calls.specs.CallRules.{short_in_use, long_in_use}
use Rattle.spec_calls.specs.Made.{made_ids, is_unused, made_short}
use Rattle.spec_calls.proofs.MadeFree.{FreeNumber, made_free, made_least}
use Rattle.make_ids.specs.Taken.{Takes}
use Rattle.make_ids.specs.declared.short.Taken.{Taken}

-- ---- marks in a list

no_marks : (m n : ℕ) → get_or (replicate m false) n false ≡ false
no_marks zero n = refl
no_marks (suc m) zero = refl
no_marks (suc m) (suc n) = no_marks m n

mark_set : (l : List Bool) (a n : ℕ) → a < length l → get_or (set l a true) n false ≡ (get_or l n false || eqb n a)
mark_set l a n h = by (eqb n a) refl
  where
    by : (b : Bool) → eqb n a ≡ b → get_or (set l a true) n false ≡ (get_or l n false || b)
    by true e = rw (eqb-true n a e, or-true) (get_or-set_same l a true false h)
    by false e = rw or-false (get_or-set_other l a n true false (eqb-false n a e))

-- every number from 1 below n has a mark
abbrev pub AllMarked : List Bool → ℕ → Type 0
AllMarked marks n = (j : ℕ) → 1 ≤ j → j < n → get_or marks j false ≡ true

pub marked_more : (marks : List Bool) (n : ℕ) → get_or marks n false ≡ true → AllMarked marks n → AllMarked marks (n + 1)
marked_more marks n e h j a b = ⊎_elim (λ (q : j ≡ n). rw q e) (λ (q : j < n). h j a q) (eq-or-lt_of_le (le_of_suc-le-suc (rw (add-one n) at b)))

module _ (t : Table) (endpoint sender : ℕ) where
  -- a mark for each number that the calls of the first i slots take
  pub record Noted (i : ℕ) (marks : List Bool) : Type 0 where
    pub long : length marks ≡ 402
    pub mark : (n : ℕ) → 1 ≤ n → n < 402 → get_or marks n false ≡ not (is_unused (below (open_at t) i) (made_ids endpoint sender n))

  pub noted_none : Noted 0 (replicate 402 false)
  unfolding is_unused
  noted_none = record {
    long = refl;
    mark = λ n a b.
        let c = made_ids endpoint sender n in
        no_marks 402 n ∙ rw (has_none (open_at t) (λ e. same_short c e.ids), has_none (open_at t) (λ e. same_long c e.ids));
  }

  -- one more slot
  pub noted_turn : (i : ℕ) (used : Bool) (r : Taken) (marks : List Bool) → used ≡ is_used t.occupied i
      → Takes used endpoint sender (call_at t i) r → Noted i marks → Noted (i + 1) (set (set marks r.short true) r.name true)
  unfolding is_unused
  noted_turn i used r marks u k h = record {
    long = length-set (set marks r.short true) r.name true ∙ length-set marks r.short true ∙ h.long;
    mark = λ n a b.
        let c = made_ids endpoint sender n in
        mark_set (set marks r.short true) r.name n (omega (arith, length-set marks r.short true, h.long, k.name_inside))
        ∙ ap₂ ◌||◌ (mark_set marks r.short n (omega (arith, h.long, k.short_inside)) ∙ ap₂ ◌||◌ (h.mark n a b) (k.short n a b)) (k.name n a b)
        ∙ by (short_in_use (below (open_at t) i) c) (long_in_use (below (open_at t) i) c) _ _
        ∙ ap₂ (λ x y. not (not x && not y))
        (has_turn (open_at t) (λ e. same_short c e.ids) i _ _ used (entry_of i (call_at t i)) (rw u) refl refl)
        (has_turn (open_at t) (λ e. same_long c e.ids) i _ _ used (entry_of i (call_at t i)) (rw u) refl refl);
  }
    where
      by : (x y a b : Bool) → (not (not x && not y) || a || b) ≡ not (not (x || a) && not (y || b))
      by true y a b = refl
      by false true true b = refl
      by false true false b = refl
      by false false true b = refl
      by false false false true = refl
      by false false false false = refl

  -- 200 calls at most
  free : FreeNumber (entries t) endpoint sender (made_short (entries t) endpoint sender)
  free = made_free endpoint sender (entries t) (omega (arith, open_most t))

  pub made_most : (1 ≤ made_short (entries t) endpoint sender) × (made_short (entries t) endpoint sender ≤ 401)
  made_most = (free.positive, omega (arith, free.most, open_most t))

  -- the first number without a mark is the least that is unused
  pub noted_all : (n : ℕ) (marks : List Bool) → n ≤ slots → FreeFrom t.occupied n → Noted n marks
      → first_not (λ j. get_or marks j false) 400 1 ≡ made_short (entries t) endpoint sender
  noted_all n marks l none h =
      let most = made_most in
      let mark : (j : ℕ) → 1 ≤ j → j < 402 → get_or marks j false ≡ not (is_unused (entries t) (made_ids endpoint sender j)) = rw (← open_rest t n l none) at h.mark in
      not_only (λ j. get_or marks j false) 400 1 (made_short (entries t) endpoint sender) most.0 (omega arith)
      (λ j a b. mark j a (omega arith) ∙ ap not (made_least endpoint sender (entries t) j a b))
      (λ b. mark _ most.0 (omega arith) ∙ ap not free.unused)
