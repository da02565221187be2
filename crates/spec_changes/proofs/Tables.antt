-- The tables that a close, an addition and a removal make, by the slot or the customer that a search found; and that no
-- change touches the roster's form.
-- Assumes nothing.
use Prim.Native.Nat.{ℕ}
use mathlib.Core.Path.{◌≡◌, refl}
use mathlib.Core.Bool.{Bool, true, false, cond}
use lib.Dec.{eqb}
use Rattle.lists.specs.Count.{has}
use Rattle.lists.specs.Below.{below, place_of}
use Rattle.table.specs.Table.{Place, Call, Table}
use Rattle.table.specs.Total.{slots}
use Rattle.table.specs.Lists.{customer_at, Ids, Lsp, Held, held_at, standalone_at}
use Rattle.table.specs.Rules.{is_lsp}
use Rattle.table.specs.Stores.{with_slot, with_customer, with_standalone_place}
use Rattle.spec_changes.specs.Calls.{is_call, slot_of, freed, closed}
use Rattle.spec_changes.specs.Connections.{is_call_of, added_under, removed_under, added_standalone, removed_standalone, customer_of, added, removed}

pub closed_is : (t : Table) (c : Ids) (slot : ℕ) → slot ≡ slot_of t (is_call c) → freed t slot ≡ closed t c
closed_is t c slot e = rw e

module _ (t : Table) (x : Held) where
  pub added_standalone_lem : (k : ℕ) → eqb x.call 0 ≡ true → k ≡ customer_of t x.lsp.sender → added_standalone t k x.lsp ≡ added t x
  unfolding added
  added_standalone_lem k z e = rw (z, e)

  pub added_under_lem : (slot : ℕ) → eqb x.call 0 ≡ false → slot ≡ slot_of t (is_call_of x) → added_under t slot x.lsp ≡ added t x
  unfolding added
  added_under_lem slot n e = rw (n, e)

module _ (t : Table) (x : Lsp) where
  pub removed_under_lem : (slot : ℕ) → has (is_lsp x) (below (held_at t) slots) ≡ true → slot ≡ place_of (held_at t) (is_lsp x) slots
      → removed_under t slot x ≡ removed t x
  unfolding removed
  removed_under_lem slot h e = rw (h, e)

  pub removed_standalone_lem : (k : ℕ) → has (is_lsp x) (below (held_at t) slots) ≡ false → k ≡ place_of (standalone_at t) (is_lsp x) 8
      → removed_standalone t k x ≡ removed t x
  unfolding removed
  removed_standalone_lem k h e = rw (h, e)

-- ---- what no change touches: `opened_form` and `opened_time` stand beside what else an opening keeps

pub closed_form : (t : Table) (c : Ids) → (closed t c).form ≡ t.form
unfolding freed
closed_form t c = refl

pub closed_time : (t : Table) (c : Ids) → (closed t c).time ≡ t.time
unfolding freed
closed_time t c = refl

-- what neither a call stored changes nor a place of a customer's four, a connection added or removed does not change
module _ {ℓ} {A : Type ℓ} (f : Table → A) (slot : (t : Table) (i : ℕ) (c : Call) → f (with_slot t t.occupied i c) ≡ f t)
    (customer : (t : Table) (k j e : ℕ) (p : Place) → f (with_customer t k (with_standalone_place (customer_at t k) j e p)) ≡ f t) where
  pub added_same : (t : Table) (x : Held) → f (added t x) ≡ f t
  unfolding added added_under added_standalone
  added_same t x = by (eqb x.call 0)
    where
      by : (b : Bool) → f (cond b (added_standalone t (customer_of t x.lsp.sender) x.lsp) (added_under t (slot_of t (is_call_of x)) x.lsp)) ≡ f t
      by true = customer t _ _ _ _
      by false = slot t _ _

  pub removed_same : (t : Table) (x : Lsp) → f (removed t x) ≡ f t
  unfolding removed removed_under removed_standalone
  removed_same t x = by (has (is_lsp x) (below (held_at t) slots))
    where
      by : (b : Bool) → f (cond b (removed_under t (place_of (held_at t) (is_lsp x) slots) x) (removed_standalone t (place_of (standalone_at t) (is_lsp x) 8) x)) ≡ f t
      by true = slot t _ _
      by false = customer t _ _ _ _

pub added_form : (t : Table) (x : Held) → (added t x).form ≡ t.form
added_form = added_same (λ (t : Table). t.form) (λ t i c. refl) (λ t k j e p. refl)

pub added_time : (t : Table) (x : Held) → (added t x).time ≡ t.time
added_time = added_same (λ (t : Table). t.time) (λ t i c. refl) (λ t k j e p. refl)

-- a connection added marks no slot
pub added_words : (t : Table) (x : Held) → (added t x).occupied ≡ t.occupied
added_words = added_same (λ (t : Table). t.occupied) (λ t i c. refl) (λ t k j e p. refl)

pub removed_form : (t : Table) (x : Lsp) → (removed t x).form ≡ t.form
removed_form = removed_same (λ (t : Table). t.form) (λ t i c. refl) (λ t k j e p. refl)

pub removed_time : (t : Table) (x : Lsp) → (removed t x).time ≡ t.time
removed_time = removed_same (λ (t : Table). t.time) (λ t i c. refl) (λ t k j e p. refl)
