-- How many records a reading says that it dropped: those that were not kept.
-- Assumes nothing.
use Prim.Native.Nat.{ℕ, zero, suc, ◌+◌, ◌≤◌}
use native.Mathlib.Nat.{le_refl}
use native.Mathlib.Omega.{arith}
use mathlib.Core.Path.{◌≡◌, refl, ap, ◌∙◌}
use mathlib.Core.List.{List, ◌∷◌, []}
use mathlib.Core.Bool.{Bool, true, false, cond, not, ◌||◌}
use lib.Dec.{eqb}
use borrow.Author.Tests.{eqb-true, eqb-false, not-true}
use Rattle.numbers.specs.BigEndian.{Bytes}
use Rattle.lists.specs.Count.{bit, count_if}
use Rattle.lists.proofs.Tests.{both}
use Rattle.lists.proofs.Count.{count_all}
use Rattle.lists.proofs.Below.{count_none, count_below_lem}
use Rattle.table.specs.Table.{Table}
use Rattle.table.specs.Word.{is_used}
use Rattle.table.specs.Lists.{entries, held}
use Rattle.table.specs.Roster.{Accepted, roster_number, roster_answer, fresh_table, table_for, form_in}
use Rattle.table.proofs.Fresh.{fresh_entries, fresh_held}
use Rattle.spec_changes.specs.Connections.{added}
use Rattle.spec_changes.proofs.Added.{added_entries, added_held}
use Rattle.spec_promises.proofs.Demand3.{accepted}
use Rattle.spec_checkpoint.specs.Layout.{calls_in, connections_in, call_record, connection_record}
use Rattle.spec_checkpoint.specs.Salvage.{placed, kept_by_long_id, call_fits, call_kept, with_calls, connection_kept, with_connections, salvaged}
use Rattle.spec_checkpoint.specs.Restored.{bad_size, unrestored, from_checkpoint, drops_none, restored}
use Rattle.spec_checkpoint.specs.Claims.{call_dropped, connection_dropped, count_below, CallsDropped, ConnectionsDropped}
use Rattle.spec_checkpoint.proofs.Part.{record_bare, placed_entries, placed_held}
use Rattle.spec_checkpoint.proofs.Salvaged.{Sound, kept_inside, bytes_fit, may_add, calls_sound, connections_sound}
use Rattle.spec_checkpoint.proofs.Reading.{fresh_sound}

-- how many elements a list has, as a count
abbrev size {ℓ} : {A : Type ℓ} → List A → ℕ
size l = count_if (λ x. true) l

-- one number more
dropped_more : (p : ℕ → Bool) (n : ℕ) → count_below p (suc n) ≡ count_below p n + bit (p n)
dropped_more p n = omega (arith, count_below_lem (λ i. i ∷ []) p n)

module _ (r s : List ℕ) (b : Bytes r) (d : Bytes s) (e : roster_answer r ≡ Accepted) where
  abbrev fresh : Table
  fresh = fresh_table r

  -- ---- calls

  calls : (n : ℕ) → Sound r (with_calls fresh s n)
  calls = calls_sound r fresh s (fresh_sound r b e)

  -- a record kept is one entry more, and no connection
  call_more : (n : ℕ) (t : Table) → Sound r t → (c : Bool) → call_kept fresh t s n ≡ c
      → (size (entries (cond c (placed t (call_record s n)) t)) + bit (not c) ≡ suc (size (entries t))) × (size (held (cond c (placed t (call_record s n)) t)) ≡ size (held t))
  unfolding call_fits
  call_more n t i false q = (omega arith, refl)
  call_more n t i true q =
      let k = both (kept_by_long_id fresh s n) (call_fits t (call_record s n)) q in
      let free = not-true (is_used t.occupied (call_record s n).slot) (both _ _ k.1).0 in
      let inside = kept_inside fresh s n k.0 in
      (omega (arith, placed_entries t (call_record s n) i.shape.calls i.shape.words.four inside free (record_bare s n) (λ x. true)), placed_held t (call_record s n) i.shape.calls i.shape.words.four inside free (record_bare s n) (λ x. true))

  calls_told : (n : ℕ) → (size (entries (with_calls fresh s n)) + count_below (call_dropped r s) n ≡ n) × (size (held (with_calls fresh s n)) ≡ 0)
  unfolding with_calls
  calls_told zero = (rw (fresh_entries r) (omega (arith, count_none (λ i. i ∷ []) (call_dropped r s))), rw (fresh_held r))
  calls_told (suc n) =
      let t = with_calls fresh s n in
      let more = call_more n t (calls n) (call_kept fresh t s n) refl in
      let i = calls_told n in
      (omega (arith, more.0, i.0, dropped_more (call_dropped r s) n), more.1 ∙ i.1)

  -- ---- connections

  abbrev over : Table
  over = with_calls fresh s (calls_in s)

  connections : (n : ℕ) → n ≤ connections_in s → Sound r (with_connections over s n)
  connections = connections_sound r over s (bytes_fit s d) (calls (calls_in s))

  -- a record kept is one connection more, and no entry
  connection_more : (n : ℕ) → suc n ≤ connections_in s → (t : Table) → Sound r t → (c : Bool) → connection_kept t s n ≡ c
      → (size (held (cond c (added t (connection_record s n)) t)) + bit (not c) ≡ suc (size (held t)))
      × (size (entries (cond c (added t (connection_record s n)) t)) ≡ size (entries t))
  connection_more n h t i false q = (omega arith, refl)
  connection_more n h t i true q =
      let m = may_add t (connection_record s n) (bytes_fit s d n h) q in
      (omega (arith, added_held t (connection_record s n) i.shape m (λ x. true)), added_entries t (connection_record s n) i.shape m (λ x. true))

  connections_told : (n : ℕ) → n ≤ connections_in s
      → (size (held (with_connections over s n)) + count_below (connection_dropped r s) n ≡ n) × (size (entries (with_connections over s n)) ≡ size (entries over))
  unfolding with_connections
  connections_told zero h = (omega (arith, (calls_told (calls_in s)).1, count_none (λ i. i ∷ []) (connection_dropped r s)), refl)
  connections_told (suc n) h =
      let t = with_connections over s n in
      let more = connection_more n h t (connections n (omega arith)) (connection_kept t s n) refl in
      let i = connections_told n (omega arith) in
      (omega (arith, more.0, i.0, dropped_more (connection_dropped r s) n), more.1 ∙ i.1)

  -- ---- what the reading says

  calls_reported : (from_checkpoint r s).calls ≡ count_below (call_dropped r s) (calls_in s)
  unfolding from_checkpoint salvaged
  calls_reported =
      omega (arith, count_all (entries (salvaged fresh s)), (connections_told (connections_in s) (le_refl (connections_in s))).1, (calls_told (calls_in s)).0)

  connections_reported : (from_checkpoint r s).connections ≡ count_below (connection_dropped r s) (connections_in s)
  unfolding from_checkpoint salvaged
  connections_reported = omega (arith, count_all (held (salvaged fresh s)), (connections_told (connections_in s) (le_refl (connections_in s))).0)

-- a reading that answers 0 has an accepted roster, and its table is that of the checkpoint
answered_0 : (salvage : Bool) (r s : List ℕ) → (restored salvage r s).answer ≡ 0 → (roster_number (roster_answer r) ≡ 0) × (restored salvage r s ≡ from_checkpoint r s)
unfolding restored
answered_0 salvage r s h = by (eqb (roster_number (roster_answer r)) 0) refl (bad_size s) (not (eqb (form_in s) 1)) (salvage || drops_none (from_checkpoint r s)) h
  where
    by : (q : Bool) → eqb (roster_number (roster_answer r)) 0 ≡ q → (a c d : Bool)
        → (cond (not q) (unrestored (roster_number (roster_answer r)) (table_for (roster_answer r) r)) (cond a (unrestored 70 (fresh_table r)) (cond c (unrestored 71 (fresh_table r)) (cond d (from_checkpoint r s) (unrestored 72 (fresh_table r)))))).answer ≡ 0
        → (roster_number (roster_answer r) ≡ 0)
        × (cond (not q) (unrestored (roster_number (roster_answer r)) (table_for (roster_answer r) r)) (cond a (unrestored 70 (fresh_table r)) (cond c (unrestored 71 (fresh_table r)) (cond d (from_checkpoint r s) (unrestored 72 (fresh_table r))))) ≡ from_checkpoint r s)
    by false q a c d z = absurd (eqb-false _ _ q z)
    by true q true c d z = let n : ⊥ = omega arith in absurd n
    by true q false true d z = let n : ⊥ = omega arith in absurd n
    by true q false false true z = (eqb-true _ _ q, refl)
    by true q false false false z = let n : ⊥ = omega arith in absurd n

pub calls_dropped_lem : CallsDropped
calls_dropped_lem salvage r s b d h =
    let a = answered_0 salvage r s h in
    ap (λ f. f.calls) a.1 ∙ calls_reported r s b d (accepted (roster_answer r) a.0)

pub connections_dropped_lem : ConnectionsDropped
connections_dropped_lem salvage r s b d h =
    let a = answered_0 salvage r s h in
    ap (λ f. f.connections) a.1 ∙ connections_reported r s b d (accepted (roster_answer r) a.0)
