-- The arrays that step 2 of salvage goes by: one more place filled, and which records are kept by them.
-- Assumes nothing.
use Prim.Native.Nat.{ℕ, ◌+◌, ◌<◌}
use native.Mathlib.Omega.{arith}
use mathlib.Core.Path.{◌≡◌, refl, ap, ◌∙◌}
use mathlib.Core.List.{List}
use mathlib.Core.Bool.{Bool, true, false, not, ◌&&◌}
use lib.Dec.{ltb, eqb}
use lib.ListN.{length, get_or, set}
use lib.Seq.{get_or-set_same, get_or-set_other}
use borrow.Author.Tests.{eqb-true, eqb-false, ltb-true}
use Rattle.lists.specs.Count.{bit}
use Rattle.lists.proofs.Tests.{both}
use Rattle.lists.proofs.Below.{every_same}
use Rattle.table.specs.Table.{Table}
use Rattle.table.specs.Total.{total_of}
use Rattle.table.specs.Lists.{ids_of}
use Rattle.table.specs.Rules.{same_long}
use Rattle.spec_checkpoint.specs.Layout.{calls_in, call_record}
use Rattle.spec_checkpoint.specs.Salvage.{sound_alone, named_by, goes_before, kept_by_long_id}
use Rattle.checkpoint_choice.specs.Ranked.{Filled, is_better, is_best}

pub filled_turn : (f : ℕ → ℕ) (l : List ℕ) (i v : ℕ) → i < length l → Filled f l i → v ≡ f i → Filled f (set l i v) (i + 1)
filled_turn f l i v b h e j u = by (eqb j i) refl
  where
    by : (d : Bool) → eqb j i ≡ d → get_or (set l i v) j 0 ≡ f j
    by true q = rw (eqb-true j i q) (get_or-set_same l i v 0 b ∙ e)
    by false q =
        let n = eqb-false j i q in
        get_or-set_other l i j v 0 n ∙ h j (omega arith)

mark : (b : Bool) (m : ℕ) → m ≡ bit b → eqb m 1 ≡ b
mark true m e = rw e
mark false m e = rw e

regroup : (a b c : Bool) → ((a && b) && c) ≡ ((a && c) && b)
regroup true true true = refl
regroup true true false = refl
regroup true false true = refl
regroup true false false = refl
regroup false b c = refl

-- where the arrays are filled for the whole checkpoint
module _ (fresh : Table) (s sound named : List ℕ) (n : ℕ) (complete : n ≡ calls_in s) (flags : Filled (λ j. bit (sound_alone fresh (call_record s j))) sound n)
    (counts : Filled (λ j. named_by s (call_record s j)) named n) (i : ℕ) (inside : i < n) where
  sound_at_lem : (j : ℕ) → j < n → eqb (get_or sound j 0) 1 ≡ sound_alone fresh (call_record s j)
  sound_at_lem j b = mark _ (get_or sound j 0) (flags j b)

  better_at : (j : ℕ) → j < n
      → is_better s sound named i j ≡ (sound_alone fresh (call_record s j) && same_long (ids_of (call_record s j).call) (ids_of (call_record s i).call) && goes_before s j i)
  unfolding is_better
  better_at j b =
      rw (sound_at_lem j b, counts i inside, counts j b)
      (regroup (sound_alone fresh (call_record s j)) (goes_before s j i) (same_long (ids_of (call_record s j).call) (ids_of (call_record s i).call)))

  pub best_kept : is_best s sound named n i ≡ kept_by_long_id fresh s i
  unfolding is_best kept_by_long_id
  best_kept =
      rw (sound_at_lem i inside, ← complete)
      (ap (λ b. sound_alone fresh (call_record s i) && b)
      (every_same (λ j. not (is_better s sound named i j))
      (λ j. not (sound_alone fresh (call_record s j) && same_long (ids_of (call_record s j).call) (ids_of (call_record s i).call) && goes_before s j i)) n
      (λ j b. ap not (better_at j b))))

  -- a record that is kept names a slot below the total
  pub best_inside : is_best s sound named n i ≡ true → (call_record s i).slot < total_of fresh
  unfolding is_best sound_alone
  best_inside h = ltb-true _ _ (both (ltb (call_record s i).slot (total_of fresh)) _ (rw (sound_at_lem i inside) at (both (eqb (get_or sound i 0) 1) _ h).0)).0
