-- Round trip (02, A13): what was written under a roster is read under the same customer records and the same form, plainly
-- or with salvage, and nothing is dropped.
-- Assumes nothing.
use Prim.Native.Nat.{ℕ, zero, suc, ◌-◌, ◌≤◌, ◌<◌}
use native.Mathlib.Nat.{le_refl}
use native.Mathlib.Omega.{arith}
use mathlib.Core.Path.{◌≡◌, refl, sym, ap, ◌∙◌, subst}
use mathlib.Core.List.{List, [], ◌∷◌}
use mathlib.Core.Bool.{Bool, true, false}
use lib.Dec.{ltb, eqb}
use lib.ListN.{length}
use borrow.Author.Tests.{eq-eqb, le-ltb}
use Rattle.numbers.specs.BigEndian.{Bytes}
use Rattle.lists.specs.Count.{bit, count_if}
use Rattle.lists.specs.Below.{element_if, below}
use Rattle.lists.proofs.Tests.{split}
use Rattle.lists.proofs.Count.{count_append}
use Rattle.table.specs.Table.{Table}
use Rattle.table.specs.Total.{slots}
use Rattle.table.specs.Word.{bits, is_used}
use Rattle.table.specs.Lists.{customer_at, roster, Entry, call_at, entries, Held, call_four, customer_four, held_in, held_at, standalone_at, held}
use Rattle.table.specs.Roster.{Accepted, form_in, customers_in, records_in, roster_answer, fresh_table}
use Rattle.table.proofs.Slots.{words_same}
use Rattle.table.proofs.Within.{total_most}
use Rattle.table.proofs.Fresh.{fresh_holds, fresh_roster, fresh_entries, fresh_held}
use Rattle.spec_changes.specs.Shape.{Shape}
use Rattle.spec_changes.proofs.Kept.{Kept}
use Rattle.spec_changes.proofs.Told.{rules_kept}
use Rattle.spec_changes.proofs.Fresh.{fresh_shape}
use Rattle.spec_changes.proofs.Opened.{slot_used, outside_free}
use Rattle.spec_changes.proofs.Places.{row_within}
use Rattle.spec_promises.proofs.Demand3.{accepted}
use Rattle.spec_checkpoint.specs.Layout.{calls_in, connections_in, connection_record, checkpoint_size, checkpoint_of}
use Rattle.spec_checkpoint.specs.Places.{without_places}
use Rattle.spec_checkpoint.specs.Salvage.{with_calls, with_connections, salvaged}
use Rattle.spec_checkpoint.specs.Restored.{bad_size, from_checkpoint, restored}
use Rattle.spec_checkpoint.specs.Claims.{ReadBack, RoundTrip, SalvageSame}
use Rattle.spec_checkpoint.proofs.AllKept.{Filled, filled}
use Rattle.spec_checkpoint.proofs.Connected.{records_fit, Joined, may, goes_on, joined_all}
use Rattle.spec_checkpoint.proofs.Standing.{Standing, listed_same, stands_on, under_same, standalone_same, entries_same, latest_same, held_same}
use Rattle.spec_checkpoint.proofs.Salvaged.{Sound, calls_sound, connections_sound}
use Rattle.spec_checkpoint.proofs.Reading.{fresh_sound, checkpoint_sound}
use Rattle.spec_checkpoint.proofs.Written.{calls_in_lem, connections_in_lem, form_in_lem, checkpoint_size_lem, copied, connections_are}

same_bit : (a b : Bool) → bit a ≡ bit b → a ≡ b
same_bit true true e = refl
same_bit true false e = let z : ⊥ = omega arith in absurd z
same_bit false true e = let z : ⊥ = omega arith in absurd z
same_bit false false e = refl

nothing : (l : List Held) → count_if (λ x. true) l ≡ 0 → l ≡ []
nothing [] e = refl
nothing (x ∷ l) e = let z : ⊥ = omega arith in absurd z

module _ (t : Table) (shape : Shape t) (k : Kept t) (names : (i : ℕ) → i < slots → length (call_at t i).name ≡ 32)
    (r : List ℕ) (bytes : Bytes r) (e : roster_answer r ≡ Accepted) (same : roster t ≡ records_in r (customers_in r)) (form : t.form ≡ form_in r) where
  abbrev s : List ℕ
  s = checkpoint_of t

  abbrev fresh : Table
  fresh = fresh_table r

  roster_same : roster fresh ≡ roster t
  roster_same = fresh_roster r e ∙ sym same

  form_same : fresh.form ≡ t.form
  unfolding fresh_table
  form_same = sym form

  all_calls : Filled t fresh s (calls_in s)
  all_calls =
      filled t fresh s k (copied t k names) (fresh_shape r) (rules_kept fresh (fresh_holds r bytes e)) roster_same form_same (λ p. rw (fresh_entries r))
      (calls_in s) (le_refl (calls_in s))

  abbrev over : Table
  over = with_calls fresh s (calls_in s)

  calls_same : (p : Entry → Bool) → count_if p (entries over) ≡ count_if p (entries t)
  calls_same p = all_calls.calls p ∙ (copied t k names).all p

  abbrev g : ℕ → List Held
  g n = connection_record s n ∷ []

  all_held : (p : Held → Bool) → count_if p (below g (connections_in s)) ≡ count_if p (held t)
  all_held p = ap (count_if p) (connections_are t k names)

  over_same : roster over ≡ roster t
  over_same = all_calls.same ∙ roster_same

  idle : (p : Held → Bool) → count_if p (held over) ≡ 0
  idle p = all_calls.connections p ∙ rw (fresh_held r)

  joined : (n : ℕ) → n ≤ connections_in s → Joined over s n
  joined = joined_all t over s k all_held all_calls.shape all_calls.kept over_same calls_same idle

  sound : (n : ℕ) → n ≤ connections_in s → Sound r (with_connections over s n)
  sound = connections_sound r over s (records_fit t s k all_held) (calls_sound r fresh s (fresh_sound r bytes e) (calls_in s))

  -- ---- the calls

  words_back : over.occupied ≡ t.occupied
  words_back =
      words_same over.occupied t.occupied all_calls.shape.words shape.words
      (split slots
      (λ i l m. same_bit (is_used over.occupied i) (is_used t.occupied i) (sym (slot_used over i l) ∙ calls_same (λ e. eqb i e.slot) ∙ slot_used t i l))
      (λ i l m. outside over all_calls.kept i l m ∙ sym (outside t k i l m)))
    where
      -- no slot that the table does not have is used
      outside : (u : Table) → Kept u → (i : ℕ) → slots ≤ i → i < bits → is_used u.occupied i ≡ false
      outside u k i l m = outside_free u k i (omega (arith, total_most u.form)) m

  call_back : (i : ℕ) → i < slots → is_used t.occupied i ≡ true → call_at over i ≡ without_places (call_at t i)
  call_back i l u = all_calls.fields i l (ap (λ w. is_used w i) words_back ∙ u)

  -- ---- the connections, one after the other

  none_under : (i : ℕ) → i < slots → is_used t.occupied i ≡ true → held_in (call_four (call_at over i)) ≡ []
  unfolding below element_if
  none_under i l u = rw (call_back i l u)

  none_standalone : (i : ℕ) → i < 8 → ltb i t.listed ≡ true → held_in (customer_four (customer_at over i)) ≡ []
  none_standalone i l u =
      nothing _ (omega (
        arith,
        idle (λ x. true),
        count_append (λ x. true) (below (held_at over) slots) (below (standalone_at over) 8),
        row_within (λ x. true) (λ i. ltb i over.listed) (λ i. held_in (customer_four (customer_at over i))) 8 i l
            (ap (λ n. ltb i n) (listed_same t over k all_calls.kept over_same) ∙ u),
      ))

  standing : (n : ℕ) → n ≤ connections_in s → Standing t (with_connections over s n) (below g n)
  unfolding with_connections below
  standing zero h = record { occupied = words_back; fields = λ i l u. ap without_places (call_back i l u); under = none_under; standalone = none_standalone }
  standing (suc n) h =
      let b = joined n (omega arith) in
      let m = may t over s k all_held all_calls.shape all_calls.kept over_same calls_same idle n h b in
      rw (goes_on t over s k all_held all_calls.shape all_calls.kept over_same calls_same idle n h b)
      (stands_on t (with_connections over s n) k b.kept (b.same ∙ over_same) (connection_record s n) (below g n) b.shape m (sound n (omega arith)).closed (standing n (omega arith)))

  abbrev after : Table
  after = salvaged fresh s

  all_stand : Standing t after (held t)
  unfolding salvaged
  all_stand = subst (Standing t after) (connections_are t k names) (standing (connections_in s) (le_refl (connections_in s)))

  after_kept : Kept after
  unfolding salvaged
  after_kept = (joined (connections_in s) (le_refl (connections_in s))).kept

  after_same : roster after ≡ roster t
  unfolding salvaged
  after_same = (joined (connections_in s) (le_refl (connections_in s))).same ∙ over_same

  no_calls_dropped : calls_in s - length (entries after) ≡ 0
  no_calls_dropped = omega (arith, calls_in_lem t k names, ap length (entries_same t after k after_kept after_same all_stand))

  no_connections_dropped : connections_in s - length (held after) ≡ 0
  no_connections_dropped = omega (arith, connections_in_lem t k names, ap length (held_same t after k after_kept after_same all_stand))

  good_size : bad_size s ≡ false
  unfolding bad_size
  good_size =
      let size : length s ≡ checkpoint_size (calls_in s) (connections_in s) = omega (arith, checkpoint_size_lem t k names, calls_in_lem t k names, connections_in_lem t k names) in
      rw (le-ltb (length s) 4 (omega (arith, size)), eq-eqb (length s) (checkpoint_size (calls_in s) (connections_in s)) size)

  read_complete : (salvage : Bool) → restored salvage r s ≡ from_checkpoint r s
  unfolding restored from_checkpoint
  read_complete true = rw (e, good_size, form_in_lem t k names)
  read_complete false = rw (e, good_size, form_in_lem t k names, no_calls_dropped, no_connections_dropped)

  whole : Sound r (from_checkpoint r s).table
  whole = checkpoint_sound r s bytes (records_fit t s k all_held) e

  from_checkpoint_lem : ReadBack t (from_checkpoint r s)
  unfolding from_checkpoint
  from_checkpoint_lem = record {
    answer = refl;
    calls_dropped = no_calls_dropped;
    connections_dropped = no_connections_dropped;
    occupied = all_stand.occupied;
    calls = all_stand.fields;
    time = whole.time ∙ latest_same t after k after_kept after_same all_stand;
    under = under_same t after k after_kept after_same all_stand;
    standalone = standalone_same t after k after_kept after_same all_stand;
    closed = whole.closed;
    entries = entries_same t after k after_kept after_same all_stand;
    held = held_same t after k after_kept after_same all_stand;
  }

pub round_trip : RoundTrip
round_trip t w r bytes e same form =
    let k = rules_kept t w.rules in
    let a = accepted (roster_answer r) e in
    subst (ReadBack t) (sym (read_complete t w.shape k w.names r bytes a same form false)) (from_checkpoint_lem t w.shape k w.names r bytes a same form)

pub salvage_same : SalvageSame
salvage_same t w r bytes e same form =
    let k = rules_kept t w.rules in
    let a = accepted (roster_answer r) e in
    read_complete t w.shape k w.names r bytes a same form true ∙ sym (read_complete t w.shape k w.names r bytes a same form false)
