-- The table with a call opened: one entry more, the same connections, and every rule kept. Why there is a free slot for
-- it.
-- Assumes nothing.
use Prim.Native.Nat.{ℕ, zero, suc, ◌+◌, ◌-◌, ◌/◌, ◌≤◌, ◌<◌}
use native.Mathlib.Nat.{add_assoc, add-zero}
use native.Mathlib.Omega.{arith}
use mathlib.Core.Path.{◌≡◌, refl, sym, ap, ◌∙◌}
use mathlib.Core.Logic.{◌≢◌}
use mathlib.Core.List.{List, [], ◌∷◌}
use mathlib.Core.Bool.{Bool, true, false, ◌&&◌, and-true, and-false}
use lib.Dec.{ltb, eqb}
use lib.ListN.{length, get_or, replicate, drop, get_or-append}
use lib.Seq.{get_or-append-add, get_or-drop}
use borrow.Author.Tests.{eq-eqb, ne_eqb, ltb-true, ltb-false}
use Rattle.numbers.specs.Search.{zeros_at}
use Rattle.numbers.specs.Buffer.{at_front}
use Rattle.numbers.proofs.Buffer.{front_taken}
use Rattle.lists.specs.Count.{bit, count_if}
use Rattle.lists.specs.Below.{element_if, below, every_below}
use Rattle.lists.proofs.Count.{count_ext}
use Rattle.lists.proofs.Below.{count_element, below_ext, below_nothing, below_one, length_each}
use Rattle.table.specs.Table.{Call, Table}
use Rattle.table.specs.Total.{slots, total_of}
use Rattle.table.specs.Word.{bits, is_used, lowest_free, with_used}
use Rattle.table.specs.Lists.{roster, Entry, call_at, ids_of, entry_of, open_at, entries, Held, call_four, held_in, held}
use Rattle.table.specs.Share.{is_at}
use Rattle.table.specs.Rules.{roster_holds, valid_ids, same_connection, place_clear, place_valid, request_tidy, call_free_clear}
use Rattle.table.specs.Stores.{with_slot}
use Rattle.table.proofs.Fresh.{zero_at}
use Rattle.table.proofs.Slots.{lowest_below, lowest_here, used_here, used_other, used_fits, open_rest}
use Rattle.table.proofs.Within.{total_most}
use Rattle.spec_changes.specs.Shape.{Shape}
use Rattle.spec_changes.specs.Calls.{New, entry_for, stored, opened}
use Rattle.spec_changes.proofs.Valid.{named_ids}
use Rattle.spec_changes.proofs.Kept.{Kept, MayOpen, room_for, calls_open}
use Rattle.spec_changes.proofs.Slot.{slot_entries, slot_held, slot_each, slot_within, slot_free_clear_lem, slot_shape}

-- ---- the slots

abbrev pub entry_at : Table → ℕ → Entry
entry_at t i = entry_of i (call_at t i)

abbrev in_slot : ℕ → (Entry → Bool) → Entry → Bool
in_slot j p e = eqb j e.slot && p e

-- the ledger's slots are the words': of the entries in a slot, the one of its call, where it is used
pub slot_count : (t : Table) (j : ℕ) (p : Entry → Bool) → j < slots → count_if (λ e. eqb j e.slot && p e) (entries t) ≡ bit (is_used t.occupied j && p (entry_at t j))
slot_count t j p h =
    omega (
      arith,
      below_one (open_at t) (λ i. []) (in_slot j p) j slots h elsewhere,
      ap (count_if (in_slot j p)) (below_nothing (λ i. []) slots (λ i l. refl)),
      own,
    )
  where
    at : (i : ℕ) → count_if (in_slot j p) (open_at t i) ≡ bit (is_used t.occupied i && (eqb j i && p (entry_at t i)))
    at i = count_element (in_slot j p) (is_used t.occupied i) (entry_at t i)

    own : count_if (in_slot j p) (open_at t j) ≡ bit (is_used t.occupied j && p (entry_at t j))
    own = rw (at j, eq-eqb j j refl)

    elsewhere : (i : ℕ) → (i ≡ j → ⊥) → count_if (in_slot j p) (open_at t i) ≡ 0
    elsewhere i n = rw (at i, ne_eqb j i (λ e. n (sym e)), and-false (is_used t.occupied i))

pub slot_used : (t : Table) (j : ℕ) → j < slots → count_if (λ e. eqb j e.slot) (entries t) ≡ bit (is_used t.occupied j)
slot_used t j h =
    count_ext (λ e. eqb j e.slot) (in_slot j (λ e. true)) (entries t) (λ e. sym (and-true (eqb j e.slot)))
    ∙ slot_count t j (λ e. true) h
    ∙ ap bit (and-true (is_used t.occupied j))

-- no call stands outside the total
pub outside_free : (t : Table) → Kept t → (i : ℕ) → total_of t ≤ i → i < bits → is_used t.occupied i ≡ false
outside_free t k i l m = by (is_used t.occupied i) refl
  where
    by : (b : Bool) → is_used t.occupied i ≡ b → b ≡ false
    by true u = let z : ⊥ = omega (arith, k.within i m u) in absurd z
    by false u = refl

-- fewer calls than the total leave a free slot below it: the calls are those of the slots below it
pub free_slot : (t : Table) → Kept t → length (entries t) < total_of t → lowest_free t.occupied < total_of t
unfolding element_if
free_slot t k h = by (ltb (lowest_free t.occupied) (total_of t)) refl
  where
    by : (b : Bool) → ltb (lowest_free t.occupied) (total_of t) ≡ b → lowest_free t.occupied < total_of t
    by true e = ltb-true _ _ e
    by false e =
        let f : total_of t ≤ lowest_free t.occupied = ltb-false _ _ e in
        let all = below_ext (open_at t) (λ i. entry_at t i ∷ []) (total_of t) (λ i l. rw (lowest_below t.occupied i (omega arith))) in
        omega (arith, ap length (open_rest t (total_of t) (total_most t.form) (λ i l m. outside_free t k i l (omega arith)) ∙ all) ∙ length_each (entry_at t) (total_of t))

-- a slot that is taken keeps the shape
pub used_shape : (t : Table) (i : ℕ) (c : Call) → Shape t → i < slots → length c.places ≡ 4 → Shape (with_slot t (with_used t.occupied i) i c)
used_shape t i c s inside p = slot_shape t (with_used t.occupied i) i c inside s.calls s (used_fits t.occupied i s.words (omega arith)) p

-- ---- the call as the slot holds it

abbrev zeros : ℕ → List ℕ
zeros n = replicate n 0

-- a stored call is read back
pub stored_ids : (time : ℕ) (c : New) → ids_of (stored time c) ≡ c.ids
stored_ids time c = rw (front_taken c.ids.long (zeros 32) (length c.ids.long) refl)

-- so are its mark and its request
pub stored_entry : (i time : ℕ) (c : New) → entry_of i (stored time c) ≡ entry_for i c
stored_entry i time c = rw (stored_ids time c) (by c.made)
  where
    by : (b : Bool) → ◌≡◌ {A = Entry} (record { slot = i; ids = c.ids; made = eqb (bit b) 1; request = c.request }) (record { slot = i; ids = c.ids; made = b; request = c.request })
    by true = refl
    by false = refl

zeros_behind : (x : List ℕ) (i n : ℕ) → zeros_at (at_front x (zeros 32)) (length x + i) n ≡ true
unfolding zeros_at at_front
zeros_behind x i zero = refl
zeros_behind x i (suc n) =
    rw (get_or-append-add x (drop (length x) (zeros 32)) i 0, get_or-drop (length x) (zeros 32) i 0, zero_at 32 (length x + i), add_assoc)
    (zeros_behind x (i + 1) n)

stored_free_clear : (time : ℕ) (c : New) → request_tidy (stored time c) ≡ true → call_free_clear (stored time c) ≡ true
unfolding call_free_clear every_below place_clear place_valid
stored_free_clear time c h = rw (h, (rw add-zero at (zeros_behind c.ids.long 0 (32 - length c.ids.long))))

none_under : (time : ℕ) (c : New) → held_in (call_four (stored time c)) ≡ []
unfolding below element_if
none_under time c = refl

-- ---- the table

-- the roster's form stays
pub opened_form : (t : Table) (c : New) → (opened t c).form ≡ t.form
unfolding opened
opened_form t c = refl

-- and so does the time
pub opened_time : (t : Table) (c : New) → (opened t c).time ≡ t.time
unfolding opened
opened_time t c = refl

module _ (t : Table) (c : New) (s : Shape t) (free : lowest_free t.occupied < total_of t) where
  abbrev slot : ℕ
  slot = lowest_free t.occupied

  abbrev words : List ℕ
  words = with_used t.occupied slot

  abbrev new : Call
  new = stored t.time c

  inside : slot < slots
  inside = omega (arith, free, total_most t.form)

  was : is_used t.occupied slot ≡ false
  was = lowest_here t.occupied (omega (arith, inside))

  within_words : slot / 64 < length t.occupied
  within_words = omega (arith, inside, s.words.four)

  is : is_used words slot ≡ true
  is = used_here t.occupied slot within_words

  other : (j : ℕ) → (j ≡ slot → ⊥) → is_used words j ≡ is_used t.occupied j
  other = used_other t.occupied slot within_words

  -- one entry more
  pub opened_entries : (p : Entry → Bool)
      → count_if p (entries (opened t c)) ≡ bit (p (entry_for (lowest_free t.occupied) c)) + count_if p (entries t)
  unfolding opened
  opened_entries p = omega (arith, (rw (was, is, stored_entry slot t.time c) at (slot_entries t words slot new inside s.calls other p)))

  -- the same connections
  pub opened_held : (p : Held → Bool) → count_if p (held (opened t c)) ≡ count_if p (held t)
  unfolding opened
  opened_held p = omega (arith, (rw (was, is, none_under t.time c) at (slot_held t words slot new inside s.calls other p)))

  pub opened_shape : Shape (opened t c)
  unfolding opened
  opened_shape = used_shape t slot new s inside refl

  keeps : Kept t → MayOpen (total_of t) (roster t) (entries t) (entry_for slot c) → ((a : ℕ) → count_if (is_at a) (roster t) ≤ 1) → valid_ids new ≡ true → request_tidy new ≡ true → Kept (opened t c)
  unfolding opened roster_holds
  keeps k m d n q = record {
    accepted = k.accepted;
    within = slot_within t words slot new inside s.calls other (total_of t) k.within (λ u. free);
    calls = calls_open (total_of t) (roster t) (entries t) (entry_for slot c) k.calls m (entries (opened t c)) d opened_entries;
    once = λ x. rw (opened_held (same_connection x)) (k.once x);
    names = slot_each t words slot new inside s.calls other (λ d. valid_ids d ≡ true) k.names (λ u. n);
    refreshes = slot_each t words slot new inside s.calls other (λ d. d.refreshed ≤ t.time) k.refreshes (λ u. omega arith);
    slots = slot_free_clear_lem t words slot new inside s.calls other k.slots (rw is (stored_free_clear t.time c q));
    records = k.records;
  }

-- a name that ends in a byte other than zero does so in its slot
stored_ends : (c : New) → 0 < length c.ids.long → ((k : ℕ) → length c.ids.long ≡ suc k → get_or c.ids.long k 0 ≢ 0) → get_or (stored 0 c).name ((stored 0 c).size - 1) 0 ≢ 0
unfolding at_front
stored_ends c some ends e =
    let x = c.ids.long in
    let k = length x - 1 in
    let n : length x ≡ suc k = omega arith in
    ends k n (sym (get_or-append x (drop (length x) (zeros 32)) 0 k (omega (arith, n))) ∙ e)

-- what a new call must be for its slot: its IDs fit, its name ends in a byte other than zero, and it has a request only
-- where the node made it
pub record Fits (c : New) : Type 0 where
  pub short : 0 < c.ids.short
  pub sixteen : c.ids.short < 0x10000
  pub long : 0 < length c.ids.long
  pub most : length c.ids.long ≤ 32
  pub ends : (k : ℕ) → length c.ids.long ≡ suc k → get_or c.ids.long k 0 ≢ 0
  pub request : request_tidy (stored 0 c) ≡ true

-- every rule
pub opened_kept : (t : Table) (c : New) → Shape t → Kept t → MayOpen (total_of t) (roster t) (entries t) (entry_for (lowest_free t.occupied) c)
    → ((a : ℕ) → count_if (is_at a) (roster t) ≤ 1) → Fits c → Kept (opened t c)
opened_kept t c s k m d f =
    keeps t c s (free_slot t k (room_for (total_of t) (roster t) (entries t) (entry_for (lowest_free t.occupied) c) k.calls m)) k m d
    (named_ids (stored t.time c) (record { some = f.short; fits = f.sixteen; long = f.long; most = f.most; ends = stored_ends c f.long f.ends })) f.request
