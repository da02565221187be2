-- A table's calls and connections in cells: one more (`call_more`, `held_more`), and the same ones in a table that has
-- them (`calls_same`). So they stay there while connections are added (`goes_on`).
-- Assumes nothing.
use Prim.Native.Nat.{ℕ, ◌+◌, ◌-◌, ◌≤◌, ◌<◌}
use native.Mathlib.Numerals.{add-one}
use native.Mathlib.Omega.{arith}
use mathlib.Core.Path.{◌≡◌, refl, sym, ap, ◌∙◌}
use mathlib.Core.List.{List, []}
use mathlib.Core.Bool.{Bool, true, false, ◌&&◌, true≢false}
use lib.Dec.{eqb, ltb}
use lib.ListN.{length, get_or, set, length-set, replicate, length-replicate}
use lib.Seq.{get_or-set_same, get_or-set_other}
use borrow.Author.Tests.{eq-eqb, eqb-true, eqb-false, ltb-true, ltb-false}
use Rattle.numbers.specs.BigEndian.{Bytes}
use Rattle.lists.specs.Count.{bit, count_if, has}
use Rattle.lists.specs.Below.{below}
use Rattle.lists.proofs.Tests.{both}
use Rattle.lists.proofs.Count.{has_true, true_has}
use Rattle.lists.proofs.Below.{count_below_lem, count_element}
use Rattle.table.specs.Table.{Table}
use Rattle.table.specs.Total.{slots}
use Rattle.table.specs.Word.{is_used}
use Rattle.table.specs.Lists.{call_at, ids_of, entry_of, open_at, Entry, entries, Lsp, Held, held}
use Rattle.table.specs.Rules.{is_lsp, place_valid}
use Rattle.table_words.proofs.NameBytes.{zero_get}
use Rattle.spec_changes.specs.Connections.{place_for, is_under, is_call_of, added}
use Rattle.spec_changes.proofs.Added.{added_entries, added_held, added_shape, added_kept}
use Rattle.spec_changes.proofs.Alike.{lsp_equal, lsp_self}
use Rattle.spec_changes.proofs.Told.{rules_kept, kept_rules}
use Rattle.spec_checkpoint.specs.Layout.{connections_in, connection_record}
use Rattle.spec_checkpoint.specs.Salvage.{connection_fits}
use Rattle.spec_checkpoint.proofs.Salvaged.{may_add, bytes_fit}
use Rattle.checkpoint_chains.specs.declared.Factors.{Factors}
use Rattle.checkpoint_chains.specs.Spread.{spread_over}
use Rattle.checkpoint_connections.specs.Cells.{is_filled, FirstFree, ShownFrom, call_place, is_call_in, CallsInCells, CallIn, lsp_place, HeldInCells, CellFor, TableInCells}
use Rattle.checkpoint_connections.proofs.Cells.{set_most, none_filled, shown_kept, shown_new, shown_more, Passed, passed_free, passed_all}
use Rattle.checkpoint_connections.proofs.Fits.{call_in, call_out}

-- ---- calls

pub calls_none : (f : Factors) (n : ℕ) → CallsInCells f [] (replicate 2304 0) n
calls_none f n = record { sized = length-replicate {A = ℕ} 2304 0; most = omega (arith, none_filled 2304); shown = λ x h. let z : ⊥ = omega arith in absurd z }

-- the same calls, in whatever order
pub calls_same : (f : Factors) (l r : List Entry) (cells : List ℕ) (n m : ℕ) → ((p : Entry → Bool) → count_if p r ≡ count_if p l) → n ≤ m → CallsInCells f l cells n → CallsInCells f r cells m
calls_same f l r cells n m same le k = record {
  sized = k.sized;
  most = omega (arith, k.most);
  shown = λ x h.
      shown_more (λ v. has (is_call_in x (v - 1)) l) (λ v. has (is_call_in x (v - 1)) r) cells (call_place f x)
      (λ v e. true_has (is_call_in x (v - 1)) r (omega (arith, same (is_call_in x (v - 1)), has_true (is_call_in x (v - 1)) l e)))
      (k.shown x (omega (arith, same (is_call_of x))));
}

-- whoever names a call begins at its place
own_place : (f : Factors) (x : Held) (e : Entry) → is_call_of x e ≡ true → spread_over f e.ids.endpoint e.ids.sender e.ids.short 0 ≡ call_place f x
own_place f x e h =
    let a = both (eqb x.call e.ids.short && eqb x.lsp.endpoint e.ids.endpoint) (eqb x.lsp.sender e.ids.sender) h in
    let b = both (eqb x.call e.ids.short) (eqb x.lsp.endpoint e.ids.endpoint) a.0 in
    rw (eqb-true x.call e.ids.short b.0, eqb-true x.lsp.endpoint e.ids.endpoint b.1, eqb-true x.lsp.sender e.ids.sender a.1)

-- a slot more: its call, where it is used
module _ (f : Factors) (t : Table) (cells : List ℕ) (i : ℕ) (k : CallsInCells f (below (open_at t) i) cells i) where
  abbrev here : Entry
  here = entry_of i (call_at t i)

  counts : (p : Entry → Bool) → count_if p (below (open_at t) (i + 1)) ≡ count_if p (below (open_at t) i) + bit (is_used t.occupied i && p here)
  counts p = rw (add-one i) (omega (arith, count_below_lem (open_at t) p i, count_element p (is_used t.occupied i) here))

  pub slot_none : is_used t.occupied i ≡ false → CallsInCells f (below (open_at t) (i + 1)) cells (i + 1)
  slot_none u = calls_same f (below (open_at t) i) (below (open_at t) (i + 1)) cells i (i + 1) (λ p. omega (arith, counts p, none p)) (omega arith) k
    where
      none : (p : Entry → Bool) → bit (is_used t.occupied i && p here) ≡ 0
      none p = rw u

  pub slot_more : is_used t.occupied i ≡ true → (r : ℕ) → FirstFree cells (spread_over f (call_at t i).endpoint (call_at t i).sender (call_at t i).id 0) r → r < 2304
      → CallsInCells f (below (open_at t) (i + 1)) (set cells r (i + 1)) (i + 1)
  slot_more u r free inside = record {
    sized = length-set cells r (i + 1) ∙ k.sized;
    most = omega (arith, set_most is_filled cells r (i + 1), k.most);
    shown = λ x h. by x h (is_call_of x here) refl;
  }
    where
      used : (p : Entry → Bool) → bit (is_used t.occupied i && p here) ≡ bit (p here)
      used p = rw u

      more : (x : Held) (v : ℕ) → has (is_call_in x (v - 1)) (below (open_at t) i) ≡ true → has (is_call_in x (v - 1)) (below (open_at t) (i + 1)) ≡ true
      more x v e = true_has (is_call_in x (v - 1)) (below (open_at t) (i + 1)) (omega (arith, counts (is_call_in x (v - 1)), has_true (is_call_in x (v - 1)) (below (open_at t) i) e))

      by : (x : Held) → 0 < count_if (is_call_of x) (below (open_at t) (i + 1)) → (b : Bool) → is_call_of x here ≡ b
          → ShownFrom (λ v. has (is_call_in x (v - 1)) (below (open_at t) (i + 1))) (set cells r (i + 1)) (call_place f x)
      by x h true e =
          let z : i + 1 - 1 ≡ i = omega arith in
          let one : bit (is_call_in x i here) ≡ 1 = rw (eq-eqb i i refl, e) in
          shown_new cells r (i + 1) free.free (λ q. omega arith) (λ v. has (is_call_in x (v - 1)) (below (open_at t) (i + 1))) (call_place f x)
          (rw (own_place f x here e) at free) (omega (arith, k.sized))
          (rw z (true_has (is_call_in x i) (below (open_at t) (i + 1)) (omega (arith, counts (is_call_in x i), used (is_call_in x i), one))))
      by x h false e =
          let none : bit (is_call_of x here) ≡ 0 = rw e in
          shown_kept cells r (i + 1) free.free (λ q. omega arith) (λ v. has (is_call_in x (v - 1)) (below (open_at t) (i + 1))) (call_place f x)
          (shown_more (λ v. has (is_call_in x (v - 1)) (below (open_at t) i)) (λ v. has (is_call_in x (v - 1)) (below (open_at t) (i + 1))) cells (call_place f x) (more x)
          (k.shown x (omega (arith, counts (is_call_of x), used (is_call_of x), none))))

-- a search for a connection's call: it is where a cell shows it
pub call_there : (t : Table) (x : Held) (i : ℕ) → has (is_call_in x i) (entries t) ≡ true → CallIn t x i
call_there t x i h = record { inside = inside; used = own.0; own = own.1 }
  where
    inside : i < slots
    inside = ltb-true i slots (by (ltb i slots) refl)
      where
        by : (b : Bool) → ltb i slots ≡ b → ltb i slots ≡ true
        by true q = q
        by false q = absurd (true≢false (sym h ∙ call_out t x i (ltb-false i slots q)))

    own : (is_used t.occupied i ≡ true) × (is_under (ids_of (call_at t i)) x ≡ true)
    own = both (is_used t.occupied i) (is_under (ids_of (call_at t i)) x) (sym (call_in t x i inside) ∙ h)

-- and nowhere where none does
pub call_nowhere : (f : Factors) (t : Table) (x : Held) (cells : List ℕ) (m j : ℕ) → CallsInCells f (entries t) cells slots → m ≡ call_place f x
    → Passed (λ v. has (is_call_in x (v - 1)) (entries t)) cells m j → get_or cells j 0 ≡ 0 → has (is_call_of x) (entries t) ≡ false
call_nowhere f t x cells m j k e p free = by (has (is_call_of x) (entries t)) refl
  where
    by : (b : Bool) → has (is_call_of x) (entries t) ≡ b → b ≡ false
    by true h = absurd (passed_all (λ v. has (is_call_in x (v - 1)) (entries t)) cells m j p free (rw e (k.shown x (has_true (is_call_of x) (entries t) h))))
    by false h = refl

-- ---- connections

pub held_none : (f : Factors) (s : List ℕ) → HeldInCells f s [] (replicate 3072 0)
held_none f s = record {
  sized = length-replicate {A = ℕ} 3072 0;
  most = omega (arith, none_filled 3072);
  within = λ j. omega (arith, zero_get 3072 j);
  only = λ j h. absurd (h (zero_get 3072 j));
  shown = λ x h. let z : ⊥ = omega arith in absurd z;
}

-- a search for a connection: it is held where a cell shows it
pub held_there : (f : Factors) (s : List ℕ) (l : List Held) (cells : List ℕ) (x : Lsp) (j : ℕ) → HeldInCells f s l cells → (get_or cells j 0 ≡ 0 → ⊥)
    → is_lsp x (connection_record s (get_or cells j 0 - 1)) ≡ true → has (is_lsp x) l ≡ true
held_there f s l cells x j k some h = true_has (is_lsp x) l (rw (lsp_equal x (connection_record s (get_or cells j 0 - 1)).lsp h) (k.only j some))

-- and not held where none does
pub held_nowhere : (f : Factors) (s : List ℕ) (l : List Held) (cells : List ℕ) (x : Lsp) (m j : ℕ) → HeldInCells f s l cells → m ≡ lsp_place f x
    → Passed (λ v. is_lsp x (connection_record s (v - 1))) cells m j → get_or cells j 0 ≡ 0 → j < 3072 → CellFor f l cells x j
held_nowhere f s l cells x m j k e p free inside = record {
  new = by (has (is_lsp x) l) refl;
  free = rw (← e) (passed_free (λ v. is_lsp x (connection_record s (v - 1))) cells m j p free);
  inside = inside;
}
  where
    by : (b : Bool) → has (is_lsp x) l ≡ b → b ≡ false
    by true h = absurd (passed_all (λ v. is_lsp x (connection_record s (v - 1))) cells m j p free (rw e (k.shown x (has_true (is_lsp x) l h))))
    by false h = refl

-- a record of the checkpoint more, in the first free cell from its place on
module _ (f : Factors) (s : List ℕ) (l m : List Held) (cells : List ℕ) (k : HeldInCells f s l cells) (x : Held) (n r : ℕ) (is : x ≡ connection_record s n)
    (inside : n < connections_in s) (free : FirstFree cells (lsp_place f x.lsp) r) (room : r < 3072)
    (more : (p : Held → Bool) → count_if p m ≡ bit (p x) + count_if p l) where
  some : n + 1 ≡ 0 → ⊥
  some e = omega arith

  there : r < length cells
  there = omega (arith, k.sized)

  -- the cell's number is that of the record
  own : connection_record s (n + 1 - 1) ≡ x
  own = let z : n + 1 - 1 ≡ n = omega arith in ap (λ (k : ℕ). connection_record s k) z ∙ sym is

  -- each cell is the new one, or as it was
  each : (j : ℕ) (P : ℕ → Type 0) → P (n + 1) → P (get_or cells j 0) → P (get_or (set cells r (n + 1)) j 0)
  each j P new old = by (eqb j r) refl
    where
      by : (b : Bool) → eqb j r ≡ b → P (get_or (set cells r (n + 1)) j 0)
      by true e = rw (eqb-true j r e, get_or-set_same cells r (n + 1) 0 there) new
      by false e = rw (get_or-set_other cells r j (n + 1) 0 (eqb-false j r e)) old

  only : (j : ℕ) → (get_or (set cells r (n + 1)) j 0 ≡ 0 → ⊥) → 0 < count_if (is_lsp (connection_record s (get_or (set cells r (n + 1)) j 0 - 1)).lsp) m
  only j =
      each j (λ v. (v ≡ 0 → ⊥) → 0 < count_if (is_lsp (connection_record s (v - 1)).lsp) m)
      (λ h. omega (arith, more (is_lsp (connection_record s (n + 1 - 1)).lsp), ap (λ (y : Held). bit (is_lsp y.lsp x)) own, ap bit (lsp_self x)))
      (λ h. omega (arith, more (is_lsp (connection_record s (get_or cells j 0 - 1)).lsp), k.only j h))

  shown : (y : Lsp) → 0 < count_if (is_lsp y) m → ShownFrom (λ v. is_lsp y (connection_record s (v - 1))) (set cells r (n + 1)) (lsp_place f y)
  shown y h = by (is_lsp y x) refl
    where
      by : (b : Bool) → is_lsp y x ≡ b → ShownFrom (λ v. is_lsp y (connection_record s (v - 1))) (set cells r (n + 1)) (lsp_place f y)
      by true e =
          let same = lsp_equal y x.lsp e in
          shown_new cells r (n + 1) free.free some (λ v. is_lsp y (connection_record s (v - 1))) (lsp_place f y) (rw same free) there (ap (is_lsp y) own ∙ e)
      by false e =
          let none : bit (is_lsp y x) ≡ 0 = rw e in
          shown_kept cells r (n + 1) free.free some (λ v. is_lsp y (connection_record s (v - 1))) (lsp_place f y) (k.shown y (omega (arith, more (is_lsp y), none)))

  pub held_more : HeldInCells f s m (set cells r (n + 1))
  held_more = record {
    sized = length-set cells r (n + 1) ∙ k.sized;
    most = omega (arith, set_most is_filled cells r (n + 1), k.most, more (λ y. true));
    within = λ j. each j (λ v. v ≤ connections_in s) (omega arith) (k.within j);
    only = only;
    shown = shown;
  }

-- a connection that fits, added and noted
pub goes_on : (f : Factors) (s calls cells : List ℕ) (t : Table) (x : Held) (n r : ℕ) → TableInCells f s calls cells t → Bytes s → x ≡ connection_record s n
    → n < connections_in s → FirstFree cells (lsp_place f x.lsp) r → r < 3072 → connection_fits t x ≡ true → TableInCells f s calls (set cells r (n + 1)) (added t x)
goes_on f s calls cells t x n r k bytes is inside free room fits =
    let m = may_add t x (ap (λ (y : Held). place_valid (place_for y.lsp)) is ∙ bytes_fit s bytes n inside) fits in
    record {
      shape = added_shape t x k.shape m;
      rules = kept_rules (added t x) (added_kept t x k.shape m (rules_kept t k.rules));
      calls = calls_same f (entries t) (entries (added t x)) calls slots slots (added_entries t x k.shape m) (omega arith) k.calls;
      held = held_more f s (held t) (held (added t x)) cells k.held x n r is inside free room (added_held t x k.shape m);
    }
