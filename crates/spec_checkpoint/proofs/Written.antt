-- What a checkpoint says is what the table has: its counts, its call records, its connection records.
-- Assumes nothing.
use Prim.Native.Nat.{ℕ, ◌+◌, ◌-◌, ◌*◌, ◌<◌}
use native.Mathlib.Omega.{arith}
use mathlib.Core.Path.{◌≡◌, refl, sym, ap, ◌∙◌, subst}
use mathlib.Core.List.{List, [], ◌∷◌, ◌++◌, map}
use mathlib.Core.Bool.{Bool, true, false, not, ◌&&◌}
use lib.Dec.{ltb}
use lib.ListN.{length, get_or, length-append}
use borrow.Author.Tests.{lt-ltb, ltb-true}
use Rattle.numbers.specs.BigEndian.{be16_at}
use Rattle.numbers.specs.Search.{zeros_at}
use Rattle.lists.specs.Count.{bit, count_if}
use Rattle.lists.specs.Below.{element_if, below, every_below}
use Rattle.lists.proofs.Below.{count_element, count_nowhere, below_ext}
use Rattle.lists.proofs.Tests.{both}
use Rattle.table.specs.Table.{Call, Table}
use Rattle.table.specs.Total.{slots, total_of}
use Rattle.table.specs.Word.{is_used}
use Rattle.table.specs.Lists.{Entry, entry_of, call_at, entries, Held, held}
use Rattle.table.specs.Rules.{valid_ids, request_tidy, place_clear, place_valid, call_free_clear}
use Rattle.table.specs.Roster.{form_in}
use Rattle.spec_changes.proofs.Slot.{open_most}
use Rattle.spec_changes.proofs.Kept.{Kept}
use Rattle.spec_checkpoint.specs.Layout.{Slotted, record_entry, calls_in, connections_in, checkpoint_size, call_record, call_bytes, connection_record, connection_bytes, joined, head_bytes, checkpoint_of}
use Rattle.spec_checkpoint.specs.Places.{without_places}
use Rattle.spec_checkpoint.proofs.AllKept.{Copied}
use Rattle.spec_checkpoint.proofs.Blocks.{Split, Blocks, joined_length, joined_split, split_between, split_behind}
use Rattle.spec_checkpoint.proofs.Codec.{back16, connection_size, connection_back, call_size, call_back}
use Rattle.spec_checkpoint.proofs.Slots.{each_of, map_same, map_length, passes, used, used_blocks, used_elements}

-- what an index past a list's end would read
abbrev pub no_held : Held
no_held = record { call = 0; lsp = record { endpoint = 0; tunnel = 0; extended = 0; sender = 0; lsp_id = 0 } }

-- ---- the checkpoint of a table that keeps the rules

module _ (t : Table) (k : Kept t) (names : (i : ℕ) → i < slots → length (call_at t i).name ≡ 32) where
  abbrev s : List ℕ
  s = checkpoint_of t

  abbrev used_slots : List ℕ
  used_slots = used (is_used t.occupied) slots

  abbrev entry : ℕ → Entry
  entry i = entry_of i (call_at t i)

  abbrev block : ℕ → List ℕ
  block i = call_bytes i (call_at t i)

  abbrev head : List ℕ
  head = head_bytes (length (entries t)) (length (held t))

  listed_slots : entries t ≡ map entry used_slots
  listed_slots = used_elements (is_used t.occupied) entry slots

  as_many : length used_slots ≡ length (entries t)
  as_many = sym (ap length listed_slots ∙ map_length entry used_slots)

  in_use_lem : (j : ℕ) → j < length used_slots → (get_or used_slots j 0 < slots) × (is_used t.occupied (get_or used_slots j 0) ≡ true)
  in_use_lem j h =
      let p : ℕ → Bool = λ i. ltb i slots && is_used t.occupied i in
      let w = both _ _ (passes p 0 used_slots (count_nowhere (λ i. not (p i)) (λ i. element_if (is_used t.occupied i) i) slots (λ i l.
      count_element (λ i. not (p i)) (is_used t.occupied i) i ∙ rw (lt-ltb i slots l) (by (is_used t.occupied i)))) j h) in
      (ltb-true _ _ w.0, w.1)
    where
      by : (b : Bool) → bit (b && not b) ≡ 0
      by true = refl
      by false = refl

  blocks : Blocks block 55 0 used_slots
  blocks j h = call_size (get_or used_slots j 0) (call_at t (get_or used_slots j 0)) (names _ (in_use_lem j h).0)

  parts : s ≡ head ++ joined block used_slots ++ joined connection_bytes (held t)
  unfolding checkpoint_of
  parts = rw (used_blocks (is_used t.occupied) block slots)

  -- ---- the head

  first_word : be16_at s 0 ≡ 4096 + length (entries t)
  first_word = rw parts (back16 (4096 + length (entries t)))

  pub calls_in_lem : calls_in s ≡ length (entries t)
  calls_in_lem = omega (arith, first_word, open_most t)

  pub connections_in_lem : connections_in s ≡ length (held t)
  connections_in_lem = rw parts (back16 (length (held t)))

  pub form_in_lem : form_in s ≡ 1
  form_in_lem = rw parts (omega (arith, open_most t))

  calls_size : length (joined block used_slots) ≡ 55 * length (entries t)
  calls_size = joined_length block 55 0 used_slots blocks ∙ ap (λ (n : ℕ). 55 * n) as_many

  pub checkpoint_size_lem : length s ≡ checkpoint_size (length (entries t)) (length (held t))
  checkpoint_size_lem =
      rw parts
      (omega (
        arith,
        length-append (head ++ joined block used_slots) (joined connection_bytes (held t)),
        length-append head (joined block used_slots),
        calls_size,
        joined_length connection_bytes 18 no_held (held t) (λ j h. connection_size (get_or (held t) j no_held)),
      ))

  -- ---- the call records

  free_clear_used : (i : ℕ) → i < slots → is_used t.occupied i ≡ true → call_free_clear (call_at t i) ≡ true
  free_clear_used i l u = rw u at (k.slots i l)

  record_of : (j : ℕ) → j < calls_in s → call_record s j ≡ record { slot = get_or used_slots j 0; call = without_places (call_at t (get_or used_slots j 0)) }
  record_of j h =
      let l : j < length used_slots = omega (arith, as_many, calls_in_lem) in
      let i = get_or used_slots j 0 in
      let u = in_use_lem j l in
      let split : Split s (block i) (4 + 55 * j) =
      subst (λ z. Split z (block i) (4 + 55 * j)) (sym parts)
      (split_between head (joined block used_slots) (joined connection_bytes (held t)) (block i) (55 * j) (joined_split block 55 0 used_slots blocks j l)) in
      call_back s (4 + 55 * j) i (call_at t i) (names i u.0) split (k.names i u.0 u.1) (free_clear_used i u.0 u.1)

  without_names : (c : Call) → valid_ids c ≡ true → valid_ids (without_places c) ≡ true
  unfolding valid_ids
  without_names c h = h

  without_free_clear : (c : Call) → call_free_clear c ≡ true → call_free_clear (without_places c) ≡ true
  unfolding call_free_clear every_below place_clear place_valid
  without_free_clear c h = rw (both (request_tidy c && zeros_at c.name c.size (32 - c.size)) _ h).0

  -- what holds of each call that stands in a used slot holds of each record
  by_record : (P : Slotted → Type 0) → ((i : ℕ) → i < slots → is_used t.occupied i ≡ true → P (record { slot = i; call = without_places (call_at t i) }))
      → (j : ℕ) → j < calls_in s → P (call_record s j)
  by_record P f j h =
      let u = in_use_lem j (omega (arith, as_many, calls_in_lem)) in
      subst (λ (r : Slotted). P r) (sym (record_of j h)) (f (get_or used_slots j 0) u.0 u.1)

  entries_are : below (λ j. record_entry (call_record s j) ∷ []) (calls_in s) ≡ entries t
  entries_are =
      below_ext (λ j. record_entry (call_record s j) ∷ []) (λ j. entry (get_or used_slots j 0) ∷ []) (calls_in s) (λ j h. ap (λ (r : Slotted). record_entry r ∷ []) (record_of j h))
      ∙ ap (below (λ j. entry (get_or used_slots j 0) ∷ [])) (calls_in_lem ∙ sym as_many)
      ∙ each_of entry 0 used_slots
      ∙ sym listed_slots

  pub copied : Copied t s
  copied = record {
    slots = by_record (λ r. r.slot < total_of t) (λ i l u. k.within i (omega arith) u);
    names = by_record (λ r. valid_ids r.call ≡ true) (λ i l u. without_names (call_at t i) (k.names i l u));
    clear = by_record (λ r. call_free_clear r.call ≡ true) (λ i l u. without_free_clear (call_at t i) (free_clear_used i l u));
    call = by_record (λ r. r.call ≡ without_places (call_at t r.slot)) (λ i l u. refl);
    all = λ p. ap (count_if p) entries_are;
  }

  -- ---- the connection records

  connection_of : (n : ℕ) → n < connections_in s → connection_record s n ≡ get_or (held t) n no_held
  connection_of n h =
      let l : n < length (held t) = omega (arith, connections_in_lem) in
      let x = get_or (held t) n no_held in
      let size : length (head ++ joined block used_slots) ≡ 4 + 55 * calls_in s = omega (arith, length-append head (joined block used_slots), calls_size, calls_in_lem) in
      let there = joined_split connection_bytes 18 no_held (held t) (λ j h. connection_size (get_or (held t) j no_held)) n l in
      let split : Split s (connection_bytes x) (4 + 55 * calls_in s + 18 * n) =
      subst (λ (a : ℕ). Split s (connection_bytes x) (a + 18 * n)) size
      (subst (λ z. Split z (connection_bytes x) (length (head ++ joined block used_slots) + 18 * n)) (sym parts)
      (split_behind (head ++ joined block used_slots) (joined connection_bytes (held t)) (connection_bytes x) (18 * n) there)) in
      connection_back s (4 + 55 * calls_in s + 18 * n) x split

  pub connections_are : below (λ n. connection_record s n ∷ []) (connections_in s) ≡ held t
  connections_are =
      below_ext (λ n. connection_record s n ∷ []) (λ n. get_or (held t) n no_held ∷ []) (connections_in s) (λ n h. ap (λ x. x ∷ []) (connection_of n h))
      ∙ ap (below (λ n. get_or (held t) n no_held ∷ [])) connections_in_lem
      ∙ each_of (λ x. x) no_held (held t)
      ∙ map_same (held t)
