-- One record more: a call placed where step 2 keeps it and it fits, a connection added where it fits.
-- Assumes nothing.
use Prim.Native.Nat.{ℕ, zero, suc, ◌+◌}
use native.Mathlib.Numerals.{add-one}
use native.Mathlib.Omega.{arith}
use mathlib.Core.Path.{◌≡◌, refl, ap, ◌∙◌}
use mathlib.Core.List.{List, [], ◌∷◌}
use mathlib.Core.Bool.{Bool, true, false, cond, not, ◌&&◌}
use lib.ListN.{replicate}
use borrow.Author.Tests.{not-true}
use Rattle.lists.specs.Count.{count_if}
use Rattle.lists.proofs.Tests.{both}
use Rattle.table.specs.Table.{Table}
use Rattle.table.specs.Total.{slots}
use Rattle.table.specs.Word.{is_used}
use Rattle.table.specs.Lists.{entries, Held, held}
use Rattle.table.specs.Rules.{holds, slots_within_total, rules_hold}
use Rattle.spec_changes.specs.Shape.{Shape}
use Rattle.spec_changes.specs.Connections.{added}
use Rattle.spec_changes.proofs.Tables.{added_words, added_form}
use Rattle.spec_checkpoint.specs.Layout.{call_record, connection_record}
use Rattle.spec_checkpoint.specs.Salvage.{placed, kept_by_long_id, call_fits, call_kept, with_calls, connection_fits, connection_kept, with_connections}
use Rattle.spec_checkpoint.proofs.Part.{record_bare, placed_shape, placed_held}
use Rattle.spec_checkpoint.proofs.Salvaged.{kept_inside}
use Rattle.checkpoint_chains.specs.declared.Factors.{Factors}
use Rattle.checkpoint_connections.specs.Cells.{CallsInCells, TableInCells}
use Rattle.checkpoint_connections.proofs.InCells.{held_none}

-- ---- calls

pub calls_turn : (fresh : Table) (s : List ℕ) (i : ℕ) (t u : Table) (b : Bool) → t ≡ with_calls fresh s i → b ≡ kept_by_long_id fresh s i
    → u ≡ cond (b && call_fits t (call_record s i)) (placed t (call_record s i)) t → u ≡ with_calls fresh s (i + 1)
unfolding with_calls
calls_turn fresh s i t u b e h q = rw (add-one i) (rw (e, h) at q)

pub calls_none : (fresh : Table) (s : List ℕ) → fresh ≡ with_calls fresh s 0
unfolding with_calls
calls_none fresh s = refl

-- the rules hold all along: each call that is kept keeps them
pub calls_rules : (fresh : Table) (s : List ℕ) → rules_hold fresh ≡ true → (i : ℕ) → rules_hold (with_calls fresh s i) ≡ true
unfolding with_calls call_fits
calls_rules fresh s h zero = h
calls_rules fresh s h (suc i) = by (call_kept fresh t s i) refl (calls_rules fresh s h i)
  where
    t : Table
    t = with_calls fresh s i

    by : (b : Bool) → call_kept fresh t s i ≡ b → rules_hold t ≡ true → rules_hold (cond b (placed t (call_record s i)) t) ≡ true
    by true e k = (both (not (is_used t.occupied (call_record s i).slot)) _ (both (kept_by_long_id fresh s i) (call_fits t (call_record s i)) e).1).1
    by false e k = k

-- and so does the roster's form, and with it the total: no record changes it
pub calls_form : (fresh : Table) (s : List ℕ) (i : ℕ) → (with_calls fresh s i).form ≡ fresh.form
unfolding with_calls
calls_form fresh s zero = refl
calls_form fresh s (suc i) = by (call_kept fresh (with_calls fresh s i) s i) (calls_form fresh s i)
  where
    by : (b : Bool) → (with_calls fresh s i).form ≡ fresh.form → (cond b (placed (with_calls fresh s i) (call_record s i)) (with_calls fresh s i)).form ≡ fresh.form
    by true e = e
    by false e = e

-- the shape stays too, and no call record brings a connection
calls_held : (fresh : Table) (s : List ℕ) → Shape fresh → (i : ℕ) → Shape (with_calls fresh s i) × ((p : Held → Bool) → count_if p (held (with_calls fresh s i)) ≡ count_if p (held fresh))
unfolding with_calls call_fits
calls_held fresh s h zero = (h, λ p. refl)
calls_held fresh s h (suc i) = by (call_kept fresh t s i) refl (calls_held fresh s h i)
  where
    t : Table
    t = with_calls fresh s i

    by : (b : Bool) → call_kept fresh t s i ≡ b → Shape t × ((p : Held → Bool) → count_if p (held t) ≡ count_if p (held fresh))
        → Shape (cond b (placed t (call_record s i)) t) × ((p : Held → Bool) → count_if p (held (cond b (placed t (call_record s i)) t)) ≡ count_if p (held fresh))
    by true e k =
        let r = call_record s i in
        let m = both (kept_by_long_id fresh s i) (call_fits t r) e in
        let inside = kept_inside fresh s i m.0 in
        let was = not-true (is_used t.occupied r.slot) (both (not (is_used t.occupied r.slot)) (rules_hold (placed t r)) m.1).0 in
        (placed_shape t r k.0 inside refl, λ p. placed_held t r k.0.calls k.0.words.four inside was (record_bare s i) p ∙ k.1 p)
    by false e k = k

no_held_lem : (l : List Held) → count_if (λ x. true) l ≡ 0 → l ≡ []
no_held_lem [] e = refl
no_held_lem (x ∷ l) e = let z : ⊥ = omega arith in absurd z

pub calls_shape : (fresh : Table) (s : List ℕ) → Shape fresh → (i : ℕ) → Shape (with_calls fresh s i)
calls_shape fresh s h i = (calls_held fresh s h i).0

pub calls_bare : (fresh : Table) (s : List ℕ) → Shape fresh → held fresh ≡ [] → (i : ℕ) → held (with_calls fresh s i) ≡ []
calls_bare fresh s h e i = no_held_lem (held (with_calls fresh s i)) ((calls_held fresh s h i).1 (λ x. true) ∙ ap (count_if (λ (x : Held). true)) e)

-- ---- connections

-- before the first record, the calls stand in cells, and there is no connection
pub cells_start : (f : Factors) (s cells : List ℕ) (t : Table) → Shape t → rules_hold t ≡ true → CallsInCells f (entries t) cells slots → held t ≡ [] → TableInCells f s cells (replicate 3072 0) t
cells_start f s cells t h r c e = record { shape = h; rules = r; calls = c; held = rw e (held_none f s) }

pub connections_turn : (start : Table) (s : List ℕ) (k : ℕ) (t u : Table) → t ≡ with_connections start s k
    → u ≡ cond (connection_fits t (connection_record s k)) (added t (connection_record s k)) t → u ≡ with_connections start s (k + 1)
unfolding with_connections
connections_turn start s k t u e q = rw (add-one k) (rw e at q)

-- a connection marks no slot, so that the marks stay within the total
connection_within : (t : Table) (x : Held) → holds slots_within_total t ≡ true → (b : Bool) → holds slots_within_total (cond b (added t x) t) ≡ true
connection_within t x h true = rw (added_words t x, added_form t x) h
connection_within t x h false = h

pub connections_within : (start : Table) (s : List ℕ) → holds slots_within_total start ≡ true → (k : ℕ) → holds slots_within_total (with_connections start s k) ≡ true
unfolding with_connections
connections_within start s h zero = h
connections_within start s h (suc k) =
    let t = with_connections start s k in
    connection_within t (connection_record s k) (connections_within start s h k) (connection_kept t s k)

pub connections_none : (start : Table) (s : List ℕ) → start ≡ with_connections start s 0
unfolding with_connections
connections_none start s = refl
