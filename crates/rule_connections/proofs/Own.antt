-- The connections of one customer, slot by slot.
-- Assumes nothing.
use Prim.Native.Nat.{ℕ, ◌≤◌}
use mathlib.Core.Path.{◌≡◌, refl}
use mathlib.Core.List.{List, [], ◌∷◌, ◌++◌, map-append}
use mathlib.Core.Bool.{Bool, true, false, ◌&&◌}
use lib.Dec.{eqb}
use Rattle.lists.specs.Count.{count_if, no_two}
use Rattle.lists.specs.Below.{list_if, below}
use Rattle.lists.proofs.Below.{list_if_not, below_rest}
use Rattle.table.specs.Table.{Table}
use Rattle.table.specs.Total.{slots}
use Rattle.table.specs.Word.{is_used, FreeFrom}
use Rattle.table.specs.Lists.{customer_at, call_at, Lsp, Held, Four, call_four, customer_four, held_in}
use Rattle.table.specs.Rules.{same_lsp, same_connection}
use Rattle.table_words.specs.Fours.{Alike}
use Rattle.table_words.proofs.Alike.{alike_held}
use Rattle.rule_connections.specs.Own.{own_at, own}
use Rattle.rule_connections.specs.Rows.{lsps_of}

module _ (t : Table) (address i : ℕ) (used : Bool) (sender : ℕ) (u : used ≡ is_used t.occupied i) (s : sender ≡ (call_at t i).sender) where
  pub slot_own : (used && eqb sender address) ≡ true → own_at t address i ≡ held_in (call_four (call_at t i))
  unfolding list_if
  slot_own h = rw (← u, ← s, h)

  pub slot_other : (used && eqb sender address) ≡ false → own_at t address i ≡ []
  unfolding list_if
  slot_other h = rw (← u, ← s, h)

-- ---- all of them

module _ (t : Table) where
  -- no slot behind the last used one has any
  own_rest : (address n : ℕ) → n ≤ slots → FreeFrom t.occupied n → below (own_at t address) slots ≡ below (own_at t address) n
  own_rest address n h free =
      below_rest (own_at t address) n slots h
      (λ i l m. list_if_not (is_used t.occupied i && eqb (call_at t i).sender address) (held_in (call_four (call_at t i))) (rw (free i l m)))

  count_lsps : (p : Lsp → Bool) (l : List Held) → count_if p (lsps_of l) ≡ count_if (λ x. p x.lsp) l
  count_lsps p [] = refl
  count_lsps p (x ∷ l) = rw (count_lsps p l)

  lsps_once : (l : List Held) → no_two same_lsp (lsps_of l) ≡ no_two same_connection l
  lsps_once [] = refl
  lsps_once (x ∷ l) = rw (count_lsps (same_lsp x.lsp) l, lsps_once l)

  -- what the rows have after the slots, and after the customer's own four
  pub own_once : (k n : ℕ) (g : Four) (r s : List Lsp) → Alike g (customer_four (customer_at t k)) → n ≤ slots → FreeFrom t.occupied n
      → r ≡ lsps_of (below (own_at t g.sender) n) → s ≡ r ++ lsps_of (held_in g) → no_two same_lsp s ≡ no_two same_connection (own t k)
  own_once k n g r s a h free p q =
      rw (
        q,
        p,
        alike_held g (customer_four (customer_at t k)) a,
        a.sender,
        ← (own_rest (customer_at t k).address n h free),
        ← (map-append (λ (x : Held). x.lsp) (below (own_at t (customer_at t k).address) slots) (held_in (customer_four (customer_at t k)))),
      )
      (lsps_once (own t k))
