-- A call put into a free slot: one entry more, the same connections, the time raised to its refresh; and every rule is kept
-- where the slot is below the total and the open calls still keep theirs.
-- Assumes nothing.
use Prim.Native.Nat.{ℕ, max, ◌+◌, ◌/◌, ◌≤◌, ◌<◌}
use native.Mathlib.Omega.{arith}
use mathlib.Core.Path.{◌≡◌, refl, ap, ◌∙◌}
use mathlib.Core.List.{List, []}
use mathlib.Core.Bool.{Bool, true, false}
use lib.ListN.{length, replicate}
use Rattle.lists.specs.Count.{bit, count_if}
use Rattle.lists.specs.Below.{element_if, below}
use Rattle.table.specs.Table.{Call, Table}
use Rattle.table.specs.Total.{slots, total_of}
use Rattle.table.specs.Word.{is_used, with_used}
use Rattle.table.specs.Zeros.{no_place}
use Rattle.table.specs.Lists.{roster, Entry, entries, Held, call_four, held_in, held}
use Rattle.table.specs.Rules.{roster_holds, valid_ids, same_connection, call_free_clear}
use Rattle.table.proofs.Slots.{used_here, used_other}
use Rattle.spec_changes.specs.Shape.{Shape}
use Rattle.spec_changes.specs.Expiry.{raised}
use Rattle.spec_changes.proofs.Kept.{CallsKept, Kept}
use Rattle.spec_changes.proofs.Slot.{call_here, call_other, slot_entries, slot_held, slot_each, slot_within, slot_free_clear_lem}
use Rattle.spec_changes.proofs.Opened.{used_shape}
use Rattle.spec_changes.proofs.Expired.{raised_shape}
use Rattle.spec_checkpoint.specs.Layout.{Slotted, record_entry, call_record}
use Rattle.spec_checkpoint.specs.Latest.{refresh_in, latest_refresh}
use Rattle.spec_checkpoint.specs.Salvage.{placed}
use Rattle.spec_checkpoint.proofs.Latest.{largest_put}

-- a record has no connections in its call's places
pub places_bare : (c : Call) → c.places ≡ replicate 4 no_place → held_in (call_four c) ≡ []
unfolding below element_if
places_bare c p = rw p

pub record_bare : (s : List ℕ) (i : ℕ) → held_in (call_four (call_record s i).call) ≡ []
record_bare s i = places_bare (call_record s i).call refl

-- the roster's form stays, and with it the total
pub placed_form : (t : Table) (r : Slotted) → (placed t r).form ≡ t.form
placed_form t r = refl

pub placed_shape : (t : Table) (r : Slotted) → Shape t → r.slot < slots → length r.call.places ≡ 4 → Shape (placed t r)
placed_shape t r s inside p = used_shape (raised t r.call.refreshed) r.slot r.call (raised_shape t r.call.refreshed s) inside p

module _ (t : Table) (r : Slotted) (long : slots ≤ length t.calls) (four : length t.occupied ≡ 4) (inside : r.slot < slots) (was : is_used t.occupied r.slot ≡ false) (none : held_in (call_four r.call) ≡ []) where
  abbrev u : Table
  u = raised t r.call.refreshed

  abbrev words : List ℕ
  words = with_used t.occupied r.slot

  within_words : r.slot / 64 < length t.occupied
  within_words = omega arith

  is : is_used words r.slot ≡ true
  is = used_here t.occupied r.slot within_words

  other : (j : ℕ) → (j ≡ r.slot → ⊥) → is_used words j ≡ is_used t.occupied j
  other = used_other t.occupied r.slot within_words

  pub placed_entries : (p : Entry → Bool) → count_if p (entries (placed t r)) ≡ bit (p (record_entry r)) + count_if p (entries t)
  placed_entries p = omega (arith, (rw (was, is) at (slot_entries u words r.slot r.call inside long other p)))

  pub placed_held : (p : Held → Bool) → count_if p (held (placed t r)) ≡ count_if p (held t)
  placed_held p = omega (arith, (rw (was, is, none) at (slot_held u words r.slot r.call inside long other p)))

  -- the latest refresh is that of those before, or the record's
  pub placed_latest : latest_refresh (placed t r) ≡ max (latest_refresh t) r.call.refreshed
  placed_latest =
      largest_put (refresh_in t) (refresh_in (placed t r)) r.slot slots inside (rw was) (λ i n. rw (other i n, call_other u words r.slot r.call inside long i n))
      ∙ ap (max (latest_refresh t)) (rw (is, call_here u words r.slot r.call inside long))

  pub placed_kept : Kept t → r.slot < total_of t → CallsKept (total_of t) (roster t) (entries (placed t r)) → valid_ids r.call ≡ true → call_free_clear r.call ≡ true → Kept (placed t r)
  unfolding roster_holds
  placed_kept k within calls list_if clear = record {
    accepted = k.accepted;
    within = slot_within u words r.slot r.call inside long other (total_of t) k.within (λ v. within);
    calls = calls;
    once = λ x. rw (placed_held (same_connection x)) (k.once x);
    names = slot_each u words r.slot r.call inside long other (λ (d : Call). valid_ids d ≡ true) k.names (λ v. list_if);
    refreshes = slot_each u words r.slot r.call inside long other (λ (d : Call). d.refreshed ≤ u.time) (λ j h v. omega (arith, k.refreshes j h v)) (λ v. omega arith);
    slots = slot_free_clear_lem u words r.slot r.call inside long other k.slots (rw is clear);
    records = k.records;
  }
