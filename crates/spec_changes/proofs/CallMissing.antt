-- A connection with a Call ID always has its open call: a table holds no other, by its shape alone.
-- Assumes nothing.
use Prim.Native.Nat.{ℕ, ◌<◌}
use native.Mathlib.Omega.{arith}
use mathlib.Core.Path.{◌≡◌, refl, ◌∙◌}
use mathlib.Core.Bool.{Bool, true, false, not, and-false}
use lib.Dec.{eqb}
use borrow.Author.Tests.{eq-eqb}
use Rattle.lists.specs.Count.{count_if, has}
use Rattle.lists.proofs.Count.{true_has, false_has}
use Rattle.lists.proofs.Below.{count_element, count_at}
use Rattle.table.specs.Table.{Call, Table}
use Rattle.table.specs.Total.{slots}
use Rattle.table.specs.Word.{is_used}
use Rattle.table.specs.Lists.{Entry, entry_of, call_at, open_at, entries, call_four, connection_at, held}
use Rattle.spec_changes.specs.Connections.{is_call_of, call_missing}
use Rattle.spec_changes.proofs.Everywhere.{none_held}

-- ---- the connections of a slot, and those of Call ID 0

own_call : (c : Call) (j i : ℕ) → is_call_of (connection_at (call_four c) j) (entry_of i c) ≡ true
own_call c j i = rw (eq-eqb c.id c.id refl, eq-eqb c.endpoint c.endpoint refl, eq-eqb c.sender c.sender refl)

-- a used slot's call is the call of what stands under it
has_call : (t : Table) (i : ℕ) → i < slots → is_used t.occupied i ≡ true → (j : ℕ) → has (is_call_of (connection_at (call_four (call_at t i)) j)) (entries t) ≡ true
has_call t i l u j = true_has test (entries t) (omega (arith, count_at (open_at t) test i slots l, here))
  where
    test : Entry → Bool
    test = is_call_of (connection_at (call_four (call_at t i)) j)

    here : count_if test (open_at t i) ≡ 1
    here = count_element test (is_used t.occupied i) (entry_of i (call_at t i)) ∙ rw (u, own_call (call_at t i) j i)

-- no connection of any table is without its call
pub no_call_missing : (t : Table) → has (call_missing (entries t)) (held t) ≡ false
no_call_missing t =
    false_has (call_missing (entries t)) (held t)
    (none_held (call_missing (entries t)) t (λ i l u j _ _. rw (has_call t i l u j) (and-false (not (eqb (call_at t i).id 0)))) (λ k l u j _ _. refl))
