-- A change of one place of a call's four is the change of one place, and leaves roster and calls alone.
-- Assumes nothing.
use Prim.Native.Nat.{ℕ, ◌-◌, ◌≤◌, ◌<◌}
use native.Mathlib.Omega.{arith}
use mathlib.Core.Path.{◌≡◌, refl, ◌∙◌}
use mathlib.Core.Bool.{Bool, true, ◌&&◌}
use lib.ListN.{length-set}
use lib.Seq.{get_or-set_other}
use Rattle.numbers.specs.Search.{zeros_at}
use Rattle.lists.specs.Count.{count_if}
use Rattle.lists.specs.Below.{below}
use Rattle.lists.proofs.Tests.{both}
use Rattle.lists.proofs.Count.{count_append}
use Rattle.table.specs.Table.{Place, Call, Table}
use Rattle.table.specs.Total.{slots, total_of}
use Rattle.table.specs.Word.{is_used}
use Rattle.table.specs.Zeros.{no_place}
use Rattle.table.specs.Lists.{roster, Entry, call_at, entries, call_four, held_in, held_at, standalone_at}
use Rattle.table.specs.Rules.{roster_holds, valid_ids, request_tidy, place_valid, call_free_clear}
use Rattle.table.specs.Stores.{with_slot, with_place}
use Rattle.spec_changes.specs.Shape.{Shape}
use Rattle.spec_changes.proofs.Kept.{calls_fewer}
use Rattle.spec_changes.proofs.Slot.{slot_shape, slot_entries, slot_held, slot_each, slot_free_clear_lem}
use Rattle.spec_changes.proofs.Places.{places_valid, row_within}
use Rattle.spec_changes.proofs.Connections.{SameCalls, OnePlace}

-- place j of the call in slot i, which is used, has q in the table u
module _ (t : Table) (s : Shape t) (i j : ℕ) (q : Place) (inside : i < slots) (used : is_used t.occupied i ≡ true) where
  abbrev c : Call
  c = call_at t i

  abbrev d : Call
  d = with_place c j q

  abbrev u : Table
  u = with_slot t t.occupied i d

  under_entries : (p : Entry → Bool) → count_if p (entries u) ≡ count_if p (entries t)
  under_entries p = omega (arith, slot_entries t t.occupied i d inside s.calls (λ m n. refl) p)

  under_free_clear : place_valid q ≡ true → call_free_clear c ≡ true → call_free_clear d ≡ true
  unfolding call_free_clear
  under_free_clear new old =
      let k = both (request_tidy c && zeros_at c.name c.size (32 - c.size)) _ old in
      rw k.0 (places_valid c.places j q (s.places i inside) new k.1)

  under_names : valid_ids c ≡ true → valid_ids d ≡ true
  unfolding valid_ids
  under_names h = h

  under_same : place_valid q ≡ true → SameCalls t u
  unfolding roster_holds
  under_same new = record {
    roster = refl;
    entries = under_entries;
    shape = slot_shape t t.occupied i d inside s.calls s s.words (length-set c.places j q ∙ s.places i inside);
    kept = λ k once. record {
      accepted = k.accepted;
      within = k.within;
      calls = calls_fewer (total_of t) (roster t) (entries u) (entries t) (λ p. omega (arith, under_entries p)) k.calls;
      once = once;
      names = slot_each t t.occupied i d inside s.calls (λ m n. refl) (λ e. valid_ids e ≡ true) k.names (λ h. under_names (k.names i inside used));
      refreshes = slot_each t t.occupied i d inside s.calls (λ m n. refl) (λ e. e.refreshed ≤ t.time) k.refreshes (k.refreshes i inside);
      slots = slot_free_clear_lem t t.occupied i d inside s.calls (λ m n. refl) k.slots (rw used (under_free_clear new (rw used at (k.slots i inside))));
      records = k.records;
    };
  }

  pub under_place : place_valid q ≡ true → OnePlace t (with_slot t t.occupied i (with_place (call_at t i) j q)) (call_four (call_at t i)) (call_four (with_place (call_at t i) j q)) j
  under_place new = record {
    same = under_same new;
    within = λ p. omega (
      arith,
      count_append p (below (held_at t) slots) (below (standalone_at t) 8),
      row_within p (is_used t.occupied) (λ i. held_in (call_four (call_at t i))) slots i inside used,
    );
    counts = λ p. rw used at (slot_held t t.occupied i d inside s.calls (λ m n. refl) p);
    other = λ m n. rw (get_or-set_other c.places j m q no_place n);
  }
