-- A test that no connection of a four passes, of any call's four, of any customer's, of the table.
-- Assumes nothing.
use Prim.Native.Nat.{ℕ, ◌<◌}
use mathlib.Core.Path.{◌≡◌, ◌∙◌}
use mathlib.Core.Bool.{Bool, true, false}
use lib.Dec.{ltb}
use Rattle.lists.specs.Count.{count_if}
use Rattle.lists.specs.Below.{below}
use Rattle.lists.proofs.Count.{count_append}
use Rattle.lists.proofs.Below.{count_nowhere, count_not_element, count_not_list_if}
use Rattle.table.specs.Table.{Table}
use Rattle.table.specs.Total.{slots}
use Rattle.table.specs.Word.{is_used}
use Rattle.table.specs.Lists.{customer_at, call_at, Held, Four, call_four, customer_four, place_at, is_taken, connection_at, held_place, held_in, held_at, standalone_at, held}

module _ (p : Held → Bool) where
  -- no taken place of a four holds what passes
  abbrev pub NoneOf : Four → Type 0
  NoneOf f = (j : ℕ) → j < 4 → is_taken (place_at f j) ≡ true → p (connection_at f j) ≡ false

  pub none_in : (f : Four) → NoneOf f → count_if p (held_in f) ≡ 0
  none_in f h = count_nowhere p (held_place f) 4 (λ j l. count_not_element p (is_taken (place_at f j)) (connection_at f j) (h j l))

  module _ (t : Table) where
    pub none_under : ((i : ℕ) → i < slots → is_used t.occupied i ≡ true → NoneOf (call_four (call_at t i))) → count_if p (below (held_at t) slots) ≡ 0
    none_under h =
        count_nowhere p (held_at t) slots
        (λ i l. count_not_list_if p (is_used t.occupied i) (held_in (call_four (call_at t i))) (λ u. none_in (call_four (call_at t i)) (h i l u)))

    pub none_standalone : ((k : ℕ) → k < 8 → ltb k t.listed ≡ true → NoneOf (customer_four (customer_at t k))) → count_if p (below (standalone_at t) 8) ≡ 0
    none_standalone h =
        count_nowhere p (standalone_at t) 8
        (λ k l. count_not_list_if p (ltb k t.listed) (held_in (customer_four (customer_at t k))) (λ u. none_in (customer_four (customer_at t k)) (h k l u)))

    pub none_held : ((i : ℕ) → i < slots → is_used t.occupied i ≡ true → NoneOf (call_four (call_at t i)))
        → ((k : ℕ) → k < 8 → ltb k t.listed ≡ true → NoneOf (customer_four (customer_at t k))) → count_if p (held t) ≡ 0
    none_held a b = count_append p (below (held_at t) slots) (below (standalone_at t) 8) ∙ rw (none_under a, none_standalone b)
