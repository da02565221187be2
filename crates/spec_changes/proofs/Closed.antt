-- The table with a call closed: one entry less, the same connections, since the call had none, and every rule kept.
-- Assumes nothing.
use Prim.Native.Nat.{ℕ, ◌+◌, ◌/◌, ◌≤◌, ◌<◌}
use native.Mathlib.Omega.{arith}
use mathlib.Core.Path.{◌≡◌, refl, sym, ◌∙◌}
use mathlib.Core.List.{List}
use mathlib.Core.Bool.{Bool, true, false, true≢false}
use lib.Dec.{eqb}
use lib.ListN.{length}
use borrow.Author.Tests.{eqb-true, eq-eqb}
use Rattle.lists.specs.Count.{bit, count_if}
use Rattle.lists.proofs.Tests.{both}
use Rattle.lists.proofs.Count.{count_le}
use Rattle.lists.proofs.Shown.{count_shown}
use Rattle.table.specs.Table.{Call, Table}
use Rattle.table.specs.Total.{slots, total_of}
use Rattle.table.specs.Word.{is_used, with_free}
use Rattle.table.specs.Zeros.{no_call}
use Rattle.table.specs.Lists.{roster, Ids, Entry, call_at, ids_of, entry_of, entries, Held, call_four, place_at, is_taken, connection_at, held_in, held}
use Rattle.table.specs.Rules.{roster_holds, same_pair, same_short, same_long, valid_ids, same_connection}
use Rattle.table.proofs.Fresh.{free_clear}
use Rattle.table.proofs.Slots.{free_here, free_other, free_fits}
use Rattle.spec_changes.specs.Shape.{Shape}
use Rattle.spec_changes.specs.Calls.{is_call, slot_of, freed, closed}
use Rattle.spec_changes.specs.Connections.{is_under}
use Rattle.spec_changes.proofs.Kept.{Kept, calls_fewer}
use Rattle.spec_changes.proofs.Slot.{found_slot, slot_entries, slot_held, slot_each, slot_within, slot_free_clear_lem, slot_shape}

-- what stands in the slot of a call with this pair and short ID stands under the call
stands_under : (c : Ids) (d : Call) → same_short c (ids_of d) ≡ true → (j : ℕ) → is_under c (connection_at (call_four d) j) ≡ true
unfolding same_short
stands_under c d h j =
    let k = both (same_pair c (ids_of d)) (eqb c.short d.id) h in
    let m = both (eqb c.endpoint d.endpoint) (eqb c.sender d.sender) k.0 in
    rw (eqb-true c.short d.id k.1, eqb-true c.endpoint d.endpoint m.0, eqb-true c.sender d.sender m.1, eq-eqb d.id d.id refl, eq-eqb d.endpoint d.endpoint refl, eq-eqb d.sender d.sender refl)

module _ (t : Table) (c : Ids) (s : Shape t) (h : 0 < count_if (is_call c) (entries t)) where
  abbrev slot : ℕ
  slot = slot_of t (is_call c)

  abbrev words : List ℕ
  words = with_free t.occupied slot

  -- the slot found is used by the call
  pub closed_slot : (slot_of t (is_call c) < slots) × (is_used t.occupied (slot_of t (is_call c)) ≡ true)
      × (is_call c (entry_of (slot_of t (is_call c)) (call_at t (slot_of t (is_call c)))) ≡ true)
  closed_slot = found_slot t (is_call c) h

  inside : slot < slots
  inside = closed_slot.0

  was : is_used t.occupied slot ≡ true
  was = closed_slot.1

  within_words : slot / 64 < length t.occupied
  within_words = omega (arith, inside, s.words.four)

  is : is_used words slot ≡ false
  is = free_here t.occupied slot within_words

  other : (j : ℕ) → (j ≡ slot → ⊥) → is_used words j ≡ is_used t.occupied j
  other = free_other t.occupied slot within_words

  -- one entry less
  pub closed_entries : (p : Entry → Bool)
      → count_if p (entries t) ≡ bit (p (entry_of (slot_of t (is_call c)) (call_at t (slot_of t (is_call c))))) + count_if p (entries (closed t c))
  unfolding freed
  closed_entries p = omega (arith, (rw (was, is) at (slot_entries t words slot no_call inside s.calls other p)))

  pub closed_shape : Shape (closed t c)
  unfolding freed no_call
  closed_shape = slot_shape t words slot no_call inside s.calls s (free_fits t.occupied slot s.words (omega (arith, inside))) refl

  -- the call has no connections: 32 comes before 22
  module _ (idle : count_if (is_under c) (held t) ≡ 0) where
    emptied : (p : Held → Bool) → count_if p (held (closed t c)) + count_if p (held_in (call_four (call_at t slot))) ≡ count_if p (held t) + 0
    unfolding freed
    emptied p = rw (was, is) at (slot_held t words slot no_call inside s.calls other p)

    nothing : (p : Held → Bool) → count_if p (held_in (call_four (call_at t slot))) ≡ 0
    nothing p =
        let d = call_at t slot in
        let same = (both (same_short c (ids_of d)) (same_long c (ids_of d)) closed_slot.2).0 in
        omega (
          arith,
          idle,
          emptied (is_under c),
          count_shown (λ j. is_taken (place_at (call_four d) j)) (connection_at (call_four d)) (is_under c) (λ x. true) true 4 (stands_under c d same),
          count_le p (λ x. true) (held_in (call_four d)) (λ x _. refl),
        )

    -- the same connections
    pub closed_held : (p : Held → Bool) → count_if p (held (closed t c)) ≡ count_if p (held t)
    closed_held p = omega (arith, emptied p, nothing p)

    -- every rule
    pub closed_kept : Kept t → Kept (closed t c)
    unfolding freed roster_holds
    closed_kept k = record {
      accepted = k.accepted;
      within = slot_within t words slot no_call inside s.calls other (total_of t) k.within (λ u. let z : true ≡ false = sym u ∙ is in absurd (true≢false z));
      calls = calls_fewer (total_of t) (roster t) (entries (closed t c)) (entries t) (λ p. omega (arith, closed_entries p)) k.calls;
      once = λ x. rw (closed_held (same_connection x)) (k.once x);
      names = slot_each t words slot no_call inside s.calls other (λ d. valid_ids d ≡ true) k.names (λ u. let z = sym is ∙ u in cc);
      refreshes = slot_each t words slot no_call inside s.calls other (λ d. d.refreshed ≤ t.time) k.refreshes (λ u. let z : true ≡ false = sym u ∙ is in absurd (true≢false z));
      slots = slot_free_clear_lem t words slot no_call inside s.calls other k.slots (rw is free_clear);
      records = k.records;
    }
