-- A record's call placed in the table.
-- Assumes nothing.
use Prim.Native.Nat.{ℕ}
use mathlib.Core.Path.{◌≡◌, sym, ◌∙◌}
use mathlib.Core.Bool.{Bool, true, false, cond, ◌&&◌, and-false}
use Rattle.table.specs.Table.{Call, Table}
use Rattle.table.specs.Word.{is_used, with_used}
use Rattle.table.specs.Rules.{rules_hold}
use Rattle.table.specs.Stores.{with_slot, with_occupied}
use Rattle.spec_changes.specs.Expiry.{raised}
use Rattle.spec_checkpoint.specs.Layout.{Slotted}
use Rattle.spec_checkpoint.specs.Salvage.{placed, call_fits}

pub placed_by : (t w u v : Table) (r : Slotted) (slot : ℕ) (c : Call) → slot ≡ r.slot → c ≡ r.call → w ≡ raised t c.refreshed → u ≡ with_slot w w.occupied slot c
    → v ≡ with_occupied u (with_used u.occupied slot) → v ≡ placed t r
placed_by t w u v r slot c s e d f g = rw (g, f, d, e, s)

-- what is left of the table t where the call is kept, and where it does not fit
module _ (t : Table) (r : Slotted) (best fits : Bool) where
  pub call_placed : (v : Table) → best ≡ true → fits ≡ call_fits t r → fits ≡ true → v ≡ placed t r → v ≡ cond (best && call_fits t r) (placed t r) t
  call_placed v b f h g = rw (b, sym f ∙ h) g

  pub call_dropped_lem : fits ≡ call_fits t r → fits ≡ false → t ≡ cond (best && call_fits t r) (placed t r) t
  call_dropped_lem f h = rw (sym f ∙ h, and-false best)

-- whether a call fits, where its slot is used and where it is free
module _ (t : Table) (r : Slotted) (slot : ℕ) (used : Bool) (here : slot ≡ r.slot) (bit : used ≡ is_used t.occupied slot) where
  pub slot_used : used ≡ true → false ≡ call_fits t r
  unfolding call_fits
  slot_used u = rw (rw (bit, here) at u)

  pub slot_free : (holds : Bool) → used ≡ false → holds ≡ rules_hold (placed t r) → holds ≡ call_fits t r
  unfolding call_fits
  slot_free holds u h = rw (rw (bit, here) at u) h
