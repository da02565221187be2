-- The table with a call refreshed (02, A7): the same calls and connections, and every rule kept.
-- Assumes nothing.
use Prim.Native.Nat.{ℕ, ◌≤◌, ◌<◌}
use native.Mathlib.Omega.{arith}
use mathlib.Core.Path.{◌≡◌, refl, sym, ap, ◌∙◌, subst}
use mathlib.Core.List.{List, ◌++◌}
use mathlib.Core.Bool.{Bool, true, false}
use lib.Dec.{eqb}
use borrow.Author.Tests.{eqb-true, eqb-false}
use Rattle.lists.specs.Count.{count_if}
use Rattle.lists.specs.Below.{element_if, list_if, below}
use Rattle.lists.proofs.Below.{below_ext}
use Rattle.table.specs.Table.{Call, Table}
use Rattle.table.specs.Total.{slots, total_of}
use Rattle.table.specs.Word.{is_used}
use Rattle.table.specs.Lists.{roster, call_at, entry_of, open_at, entries, Held, call_four, held_in, held_at, standalone_at, held}
use Rattle.table.specs.Rules.{roster_holds, valid_ids, same_connection, call_free_clear}
use Rattle.table.specs.Stores.{with_slot, with_refresh}
use Rattle.spec_changes.specs.Shape.{Shape}
use Rattle.spec_changes.specs.Calls.{refreshed_at}
use Rattle.spec_changes.proofs.Kept.{CallsKept, Kept}
use Rattle.spec_changes.proofs.Slot.{call_here, call_other, slot_shape, slot_each, slot_free_clear_lem}

pub refreshed_form : (t : Table) (i : ℕ) → (refreshed_at t i).form ≡ t.form
unfolding refreshed_at
refreshed_form t i = refl

pub refreshed_time : (t : Table) (i : ℕ) → (refreshed_at t i).time ≡ t.time
unfolding refreshed_at
refreshed_time t i = refl

pub refreshed_roster : (t : Table) (i : ℕ) → roster (refreshed_at t i) ≡ roster t
unfolding refreshed_at
refreshed_roster t i = refl

module _ (t : Table) (i : ℕ) (inside : i < slots) (s : Shape t) where
  abbrev new : Call
  new = with_refresh (call_at t i) t.time

  -- what does not look at the refresh is the same of every slot
  slot_same {ℓ} : {A : Type ℓ} (f : Call → A) → f new ≡ f (call_at t i) → (j : ℕ) → f (call_at (with_slot t t.occupied i new) j) ≡ f (call_at t j)
  slot_same f h j = by (eqb j i) refl
    where
      by : (b : Bool) → eqb j i ≡ b → f (call_at (with_slot t t.occupied i new) j) ≡ f (call_at t j)
      by true e = rw (eqb-true j i e, call_here t t.occupied i new inside s.calls) h
      by false e = ap f (call_other t t.occupied i new inside s.calls j (eqb-false j i e))

  pub refreshed_entries : entries (refreshed_at t i) ≡ entries t
  unfolding refreshed_at
  refreshed_entries =
      below_ext (open_at (with_slot t t.occupied i new)) (open_at t) slots (λ j h. ap (λ e. element_if (is_used t.occupied j) e) (slot_same (entry_of j) refl j))

  pub refreshed_held : held (refreshed_at t i) ≡ held t
  unfolding refreshed_at
  refreshed_held =
      ap (λ h. h ++ below (standalone_at t) 8)
      (below_ext (held_at (with_slot t t.occupied i new)) (held_at t) slots (λ j h. ap (λ (l : List Held). list_if (is_used t.occupied j) l) (slot_same (λ c. held_in (call_four c)) refl j)))

  pub refreshed_shape : Shape (refreshed_at t i)
  unfolding refreshed_at
  refreshed_shape = slot_shape t t.occupied i new inside s.calls s s.words (s.places i inside)

  same_clear : (call_free_clear new ≡ call_free_clear (call_at t i)) × (valid_ids new ≡ valid_ids (call_at t i))
  unfolding call_free_clear valid_ids
  same_clear = (refl, refl)

  -- only an open call is refreshed
  pub refreshed_kept : is_used t.occupied i ≡ true → Kept t → Kept (refreshed_at t i)
  unfolding refreshed_at roster_holds
  refreshed_kept used k = record {
    accepted = k.accepted;
    within = k.within;
    calls = subst (CallsKept (total_of t) (roster t)) (sym refreshed_entries) k.calls;
    once = λ x. omega (arith, ap (count_if (same_connection x)) refreshed_held, k.once x);
    names = slot_each t t.occupied i new inside s.calls (λ j n. refl) (λ d. valid_ids d ≡ true) k.names (λ u. same_clear.1 ∙ k.names i inside u);
    refreshes = slot_each t t.occupied i new inside s.calls (λ j n. refl) (λ d. d.refreshed ≤ t.time) k.refreshes (λ u. omega arith);
    slots = slot_free_clear_lem t t.occupied i new inside s.calls (λ j n. refl) k.slots (rw (used, same_clear.0) (rw used at (k.slots i inside)));
    records = k.records;
  }
