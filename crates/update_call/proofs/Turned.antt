-- A slot's words stored, then its mark.
-- Assumes nothing.
use Prim.Native.Nat.{ℕ}
use mathlib.Core.Path.{◌≡◌}
use mathlib.Core.List.{List}
use Rattle.table.specs.Table.{Call, Table}
use Rattle.table.specs.Stores.{with_slot, with_occupied}

-- mark says what becomes of the words
pub turned : (mark : List ℕ → ℕ → List ℕ) (t u v : Table) (slot : ℕ) (c d : Call) → c ≡ d → u ≡ with_slot t t.occupied slot c → v ≡ with_occupied u (mark u.occupied slot)
    → v ≡ with_slot t (mark t.occupied slot) slot d
turned mark t u v slot c d e f g = rw (g, f, e)
