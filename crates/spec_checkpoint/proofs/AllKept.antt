-- Records that are another table's calls are all kept: none breaks a rule alone, none has a twin, none takes a taken
-- slot.
-- Assumes nothing.
use Prim.Native.Nat.{ℕ, zero, suc, ◌+◌, ◌≤◌, ◌<◌}
use native.Mathlib.Nat.{eq-or-lt_of_le, le_of_suc-le-suc, not-suc-le-zero}
use native.Mathlib.Omega.{arith}
use mathlib.Core.Path.{◌≡◌, refl, sym, ◌∙◌}
use mathlib.Core.Logic.{⊎_elim}
use mathlib.Core.List.{List, [], ◌∷◌}
use mathlib.Core.Bool.{Bool, true, false, not, ◌&&◌, and-false}
use lib.Dec.{ltb, eqb}
use borrow.Author.Tests.{eq-eqb, eqb-true, eqb-false, ltb-true, ltb-false, le-ltb, lt-ltb}
use Rattle.lists.specs.Count.{bit, count_if}
use Rattle.lists.specs.Below.{below}
use Rattle.lists.proofs.Below.{count_below_lem, count_at, every_within}
use Rattle.lists.proofs.Count.{one_bit}
use Rattle.table.specs.Table.{Table}
use Rattle.table.specs.Total.{slots, total_of}
use Rattle.table.specs.Word.{is_used, with_used}
use Rattle.table.specs.Lists.{roster, ids_of, call_at, Entry, entries, Held, held}
use Rattle.table.specs.Rules.{valid_ids, same_long, call_free_clear}
use Rattle.table.proofs.Slots.{used_other}
use Rattle.table.proofs.Within.{total_most}
use Rattle.spec_changes.specs.Shape.{Shape}
use Rattle.spec_changes.specs.Expiry.{raised}
use Rattle.spec_changes.proofs.Alike.{long_self}
use Rattle.spec_changes.proofs.Kept.{CallsKept, Kept, calls_fewer}
use Rattle.spec_changes.proofs.Slot.{call_here, call_other}
use Rattle.spec_changes.proofs.Opened.{slot_used}
use Rattle.spec_changes.proofs.Told.{kept_rules}
use Rattle.spec_checkpoint.specs.Layout.{Slotted, record_entry, calls_in, call_record}
use Rattle.spec_checkpoint.specs.Places.{without_places}
use Rattle.spec_checkpoint.specs.Salvage.{placed, sound_alone, named_by, goes_before, same_call, kept_by_long_id, call_fits, with_calls}
use Rattle.spec_checkpoint.proofs.Part.{record_bare, placed_shape, placed_entries, placed_held, placed_kept}

-- ---- elements that stand one in each place

module _ {ℓ} {A : Type ℓ} (f : ℕ → List A) (p : A → Bool) where
  pub count_prefix : (i n : ℕ) → i ≤ n → count_if p (below f i) ≤ count_if p (below f n)
  count_prefix i zero h = let e : i ≡ 0 = omega arith in rw e (omega arith)
  count_prefix i (suc n) h =
      ⊎_elim
      (λ (q : i ≡ suc n). rw q (omega arith))
      (λ (q : i < suc n). omega (arith, count_prefix i n (le_of_suc-le-suc q), count_below_lem f p n))
      (eq-or-lt_of_le h)

  -- two places that pass count as two
  pub count_two : (i j n : ℕ) → i < j → j < n → count_if p (f i) + count_if p (f j) ≤ count_if p (below f n)
  count_two i j zero a b = absurd (not-suc-le-zero b)
  count_two i j (suc n) a b =
      ⊎_elim
      (λ (q : j ≡ n). rw q (omega (arith, count_at f p i n (omega arith), count_below_lem f p n)))
      (λ (q : j < n). omega (arith, count_two i j n a q, count_below_lem f p n))
      (eq-or-lt_of_le (le_of_suc-le-suc b))

  -- where one at most passes, two places that pass are one
  pub one_place : (i j n : ℕ) → i < n → j < n → 0 < count_if p (f i) → 0 < count_if p (f j) → count_if p (below f n) ≤ 1 → i ≡ j
  one_place i j n h l a b most = by (ltb i j) refl (ltb j i) refl
    where
      by : (c : Bool) → ltb i j ≡ c → (d : Bool) → ltb j i ≡ d → i ≡ j
      by true q d r = let z : ⊥ = omega (arith, count_two i j n (ltb-true i j q) l) in absurd z
      by false q true r = let z : ⊥ = omega (arith, count_two j i n (ltb-true j i r) h) in absurd z
      by false q false r = omega (arith, ltb-false i j q, ltb-false j i r)

-- ---- the records

-- what is known of the records: each could stand in a table, and together they are another table's calls
pub record Copied (t : Table) (s : List ℕ) : Type 0 where
  pub slots : (i : ℕ) → i < calls_in s → (call_record s i).slot < total_of t
  pub names : (i : ℕ) → i < calls_in s → valid_ids (call_record s i).call ≡ true
  pub clear : (i : ℕ) → i < calls_in s → call_free_clear (call_record s i).call ≡ true
  pub call : (i : ℕ) → i < calls_in s → (call_record s i).call ≡ without_places (call_at t (call_record s i).slot)
  pub all : (p : Entry → Bool) → count_if p (below (λ i. record_entry (call_record s i) ∷ []) (calls_in s)) ≡ count_if p (entries t)

-- the table from the first n of them
pub record Filled (t fresh : Table) (s : List ℕ) (n : ℕ) : Type 0 where
  pub shape : Shape (with_calls fresh s n)
  pub kept : Kept (with_calls fresh s n)
  pub same : roster (with_calls fresh s n) ≡ roster fresh
  pub form : (with_calls fresh s n).form ≡ fresh.form
  pub calls : (p : Entry → Bool) → count_if p (entries (with_calls fresh s n)) ≡ count_if p (below (λ i. record_entry (call_record s i) ∷ []) n)
  pub fields : (j : ℕ) → j < slots → is_used (with_calls fresh s n).occupied j ≡ true → call_at (with_calls fresh s n) j ≡ without_places (call_at t j)
  pub connections : (p : Held → Bool) → count_if p (held (with_calls fresh s n)) ≡ count_if p (held fresh)

module _ (t fresh : Table) (s : List ℕ) (k : Kept t) (c : Copied t s)
    (shape : Shape fresh) (kept : Kept fresh) (same : roster fresh ≡ roster t) (form : fresh.form ≡ t.form) (idle : (p : Entry → Bool) → count_if p (entries fresh) ≡ 0) where
  abbrev f : ℕ → List Entry
  f i = record_entry (call_record s i) ∷ []

  -- a record's slot is one of the table's
  inside : (i : ℕ) → i < calls_in s → (call_record s i).slot < slots
  inside i h = omega (arith, c.slots i h, total_most t.form)

  -- fewer calls than the other table's keep the rules
  part : (l : List Entry) → ((p : Entry → Bool) → count_if p l ≤ count_if p (entries t)) → CallsKept (total_of fresh) (roster fresh) l
  part l h = rw (same, form) (calls_fewer (total_of t) (roster t) l (entries t) h k.calls)

  one : (i : ℕ) → i < calls_in s → (p : Entry → Bool) → bit (p (record_entry (call_record s i))) ≤ count_if p (entries t)
  one i h p = omega (arith, count_at f p i (calls_in s) h, c.all p)

  more : (i : ℕ) → i < calls_in s → (p : Entry → Bool) → bit (p (record_entry (call_record s i))) + count_if p (below f i) ≤ count_if p (entries t)
  more i h p = omega (arith, count_below_lem f p i, count_prefix f p (suc i) (calls_in s) h, c.all p)

  -- a slot that no entry has is free
  free : (u : Table) (j : ℕ) → j < slots → count_if (λ e. eqb j e.slot) (entries u) ≡ 0 → is_used u.occupied j ≡ false
  free u j h e = by (is_used u.occupied j) (sym (slot_used u j h) ∙ e)
    where
      by : (b : Bool) → bit b ≡ 0 → b ≡ false
      by true q = let z : ⊥ = omega arith in absurd z
      by false q = refl

  alone : (i : ℕ) → i < calls_in s → sound_alone fresh (call_record s i) ≡ true
  unfolding sound_alone
  alone i h =
      let r = call_record s i in
      let was = free fresh r.slot (inside i h) (idle _) in
      let below_total : r.slot < total_of fresh = rw form (c.slots i h) in
      rw (
        lt-ltb _ _ below_total,
        kept_rules (placed fresh r) (placed_kept fresh r shape.calls shape.words.four (inside i h) was (record_bare s i) kept below_total
            (part (entries (placed fresh r)) (λ p. omega (arith, placed_entries fresh r shape.calls shape.words.four (inside i h) was (record_bare s i) p, idle p, one i h p)))
            (c.names i h) (c.clear i h)),
      )

  -- two records have two long IDs
  apart : (i j : ℕ) → i < calls_in s → j < calls_in s → (j ≡ i → ⊥) → same_call s j i ≡ false
  apart i j h l n = by (same_call s j i) refl
    where
      p : Entry → Bool
      p e = same_long (ids_of (call_record s j).call) e.ids

      hit : (m : ℕ) → same_long (ids_of (call_record s j).call) (ids_of (call_record s m).call) ≡ true → count_if p (f m) ≡ 1
      hit m e = rw e

      most : count_if p (below f (calls_in s)) ≤ 1
      most = omega (arith, c.all p, k.calls.longs (ids_of (call_record s j).call))

      here : count_if p (f j) ≡ 1
      here = hit j (long_self (ids_of (call_record s j).call))

      by : (b : Bool) → same_call s j i ≡ b → b ≡ false
      by false e = refl
      by true e = absurd (n (one_place f p j i (calls_in s) l h (omega (arith, here)) (omega (arith, hit i e)) most))

  -- no record goes before itself
  not_itself : (i : ℕ) → goes_before s i i ≡ false
  not_itself i = rw (le-ltb (named_by s (call_record s i)) (named_by s (call_record s i)) (omega arith), le-ltb i i (omega arith), and-false _)

  picked : (i : ℕ) → i < calls_in s → kept_by_long_id fresh s i ≡ true
  unfolding kept_by_long_id
  picked i h = rw (alone i h) (every_within _ (calls_in s) (λ j l. by j l (eqb j i) refl))
    where
      by : (j : ℕ) → j < calls_in s → (b : Bool) → eqb j i ≡ b
          → not (sound_alone fresh (call_record s j) && same_call s j i && goes_before s j i) ≡ true
      by j l true e = rw (eqb-true j i e, not_itself i, and-false _)
      by j l false e = rw (apart i j h l (eqb-false j i e), and-false _)

  -- the next one fits beside the first n
  module _ (i : ℕ) (h : i < calls_in s) (b : Filled t fresh s i) where
    abbrev u : Table
    u = with_calls fresh s i

    abbrev r : Slotted
    r = call_record s i

    was : is_used u.occupied r.slot ≡ false
    was =
        let p : Entry → Bool = λ e. eqb r.slot e.slot in
        let own : bit (eqb r.slot r.slot) ≡ 1 = rw (eq-eqb r.slot r.slot refl) in
        free u r.slot (inside i h) (omega (arith, b.calls p, own, more i h p, slot_used t r.slot (inside i h), one_bit (is_used t.occupied r.slot)))

    next : Kept (placed u r)
    next = placed_kept u r b.shape.calls b.shape.words.four (inside i h) was (record_bare s i) b.kept (rw (b.form, form) (c.slots i h))
        (rw (b.same, b.form) (part (entries (placed u r)) (λ p. omega (arith, placed_entries u r b.shape.calls b.shape.words.four (inside i h) was (record_bare s i) p, b.calls p, more i h p))))
        (c.names i h) (c.clear i h)

    goes_on : with_calls fresh s (suc i) ≡ placed u r
    unfolding with_calls call_fits
    goes_on = rw (picked i h, was, kept_rules (placed u r) next)

    next_fields : (j : ℕ) → j < slots → is_used (placed u r).occupied j ≡ true → call_at (placed u r) j ≡ without_places (call_at t j)
    next_fields j l q = by (eqb j r.slot) refl
      where
        by : (a : Bool) → eqb j r.slot ≡ a → call_at (placed u r) j ≡ without_places (call_at t j)
        by true e = rw (eqb-true j r.slot e) (call_here (raised u r.call.refreshed) (with_used u.occupied r.slot) r.slot r.call (inside i h) b.shape.calls ∙ c.call i h)
        by false e =
            let n = eqb-false j r.slot e in
            call_other (raised u r.call.refreshed) (with_used u.occupied r.slot) r.slot r.call (inside i h) b.shape.calls j n
            ∙ b.fields j l (sym (used_other u.occupied r.slot (omega (arith, inside i h, b.shape.words.four)) j n) ∙ q)

    step : Filled t fresh s (suc i)
    unfolding below
    step = record {
      shape = rw goes_on (placed_shape u r b.shape (inside i h) refl);
      kept = rw goes_on next;
      same = rw goes_on b.same;
      form = rw goes_on b.form;
      calls = λ p. rw goes_on (omega (arith, placed_entries u r b.shape.calls b.shape.words.four (inside i h) was (record_bare s i) p, b.calls p, count_below_lem f p i));
      fields = rw goes_on next_fields;
      connections = λ p. rw goes_on (placed_held u r b.shape.calls b.shape.words.four (inside i h) was (record_bare s i) p ∙ b.connections p);
    }

  unused : (j : ℕ) → j < slots → is_used fresh.occupied j ≡ true → call_at fresh j ≡ without_places (call_at t j)
  unused j l u = let n : false ≡ true = sym (free fresh j l (idle _)) ∙ u in let z : ◌≡◌ {A = ℕ} 0 1 = cc in let e : ⊥ = omega arith in absurd e

  -- all of the first n are kept
  pub filled : (n : ℕ) → n ≤ calls_in s → Filled t fresh s n
  unfolding with_calls below
  filled zero h = record { shape = shape; kept = kept; same = refl; form = refl; calls = λ p. idle p; fields = unused; connections = λ p. refl }
  filled (suc i) h = step i h (filled i (omega arith))
