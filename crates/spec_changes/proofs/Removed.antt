-- A connection removed: one that is the same as the one to be removed is gone and no other; roster and calls stay, and
-- so do the rules.
-- Assumes nothing.
use Prim.Native.Nat.{◌+◌, ◌<◌}
use native.Mathlib.Omega.{arith}
use mathlib.Core.Path.{◌≡◌, refl, ap, ◌∙◌}
use mathlib.Core.Bool.{Bool, true, false, cond, ◌&&◌}
use lib.Dec.{ltb}
use lib.Seq.{get_or-set_same}
use Rattle.lists.specs.Count.{bit, count_if, has, without}
use Rattle.lists.specs.Below.{below, place_of}
use Rattle.lists.proofs.Count.{has_true, has_false, count_append, count_gone}
use Rattle.lists.proofs.Below.{count_element}
use Rattle.table.specs.Table.{Table}
use Rattle.table.specs.Total.{slots}
use Rattle.table.specs.Word.{is_used}
use Rattle.table.specs.Zeros.{no_place}
use Rattle.table.specs.Lists.{customer_at, roster, Entry, call_at, entries, Lsp, Held, Four, call_four, customer_four, place_at, is_taken, connection_at, held_in, held_at, standalone_at, held}
use Rattle.table.specs.Rules.{is_lsp, same_connection, place_clear, place_valid}
use Rattle.table.specs.Stores.{with_place, with_standalone_place}
use Rattle.spec_changes.specs.Shape.{Shape}
use Rattle.spec_changes.specs.Connections.{place_with, removed_under, removed_standalone, removed}
use Rattle.spec_changes.proofs.Kept.{Kept}
use Rattle.spec_changes.proofs.Places.{found_place, found_row}
use Rattle.spec_changes.proofs.Connections.{SameCalls, OnePlace, place_held}
use Rattle.spec_changes.proofs.Standalone.{standalone_place}
use Rattle.spec_changes.proofs.Under.{under_place}

-- what a removal takes out, and what stays
record Removes (t u : Table) (x : Lsp) : Type 0 where
  pub rest : SameCalls t u
  pub gone : Held
  pub same : is_lsp x gone ≡ true
  pub counts : (p : Held → Bool) → count_if p (held t) ≡ bit (p gone) + count_if p (held u)

-- a place that was taken and holds nothing afterwards
removes_in : (t u : Table) (x : Lsp) (f g : Four) → OnePlace t u f g (place_with f x) → 0 < count_if (is_lsp x) (held_in f)
    → (place_with f x < 4 → is_taken (place_at g (place_with f x)) ≡ false) → Removes t u x
removes_in t u x f g o some free =
    let j = place_with f x in
    let k = found_place f x some in
    record {
      rest = o.same;
      gone = connection_at f j;
      same = k.2;
      counts = λ p. omega (
        arith,
        place_held t u f g j k.0 o p,
        count_element p (is_taken (place_at f j)) (connection_at f j) ∙ ap (λ b. bit (b && p (connection_at f j))) k.1,
        count_element p (is_taken (place_at g j)) (connection_at g j) ∙ ap (λ b. bit (b && p (connection_at g j))) (free k.0),
      );
    }

-- what is free holds zeros
valid : place_valid no_place ≡ true
unfolding place_valid place_clear
valid = refl

module _ (t : Table) (x : Lsp) (s : Shape t) where
  removes_under : 0 < count_if (is_lsp x) (below (held_at t) slots) → Removes t (removed_under t (place_of (held_at t) (is_lsp x) slots) x) x
  unfolding removed_under
  removes_under h =
      let i = place_of (held_at t) (is_lsp x) slots in
      let c = call_at t i in
      let j = place_with (call_four c) x in
      let f = found_row (is_lsp x) (is_used t.occupied) (λ i. held_in (call_four (call_at t i))) slots h in
      removes_in t _ x (call_four c) (call_four (with_place c j no_place)) (under_place t s i j no_place f.0 f.1 valid) f.2
      (λ l. rw (get_or-set_same c.places j no_place no_place (omega (arith, s.places i f.0))))

  removes_standalone : 0 < count_if (is_lsp x) (below (standalone_at t) 8) → Removes t (removed_standalone t (place_of (standalone_at t) (is_lsp x) 8) x) x
  unfolding removed_standalone
  removes_standalone h =
      let k = place_of (standalone_at t) (is_lsp x) 8 in
      let c = customer_at t k in
      let j = place_with (customer_four c) x in
      let f = found_row (is_lsp x) (λ i. ltb i t.listed) (λ i. held_in (customer_four (customer_at t i))) 8 h in
      removes_in t _ x (customer_four c) (customer_four (with_standalone_place c j 0 no_place)) (standalone_place t s k j 0 no_place f.0 f.1 valid refl) f.2
      (λ l. rw (get_or-set_same c.places j no_place no_place (omega (arith, s.standalone_places k f.0))))

module _ (t : Table) (x : Lsp) (s : Shape t) (h : 0 < count_if (is_lsp x) (held t)) where
  removes : Removes t (removed t x) x
  unfolding removed
  removes = by (has (is_lsp x) (below (held_at t) slots)) refl
    where
      by : (b : Bool) → has (is_lsp x) (below (held_at t) slots) ≡ b
          → Removes t (cond b (removed_under t (place_of (held_at t) (is_lsp x) slots) x) (removed_standalone t (place_of (standalone_at t) (is_lsp x) 8) x)) x
      by true e = removes_under t x s (has_true (is_lsp x) (below (held_at t) slots) e)
      by false e =
          removes_standalone t x s
          (omega (
            arith,
            has_false (is_lsp x) (below (held_at t) slots) e,
            count_append (is_lsp x) (below (held_at t) slots) (below (standalone_at t) 8),
          ))

  pub removed_roster : roster (removed t x) ≡ roster t
  removed_roster = removes.rest.roster

  pub removed_entries : (p : Entry → Bool) → count_if p (entries (removed t x)) ≡ count_if p (entries t)
  removed_entries = removes.rest.entries

  pub removed_shape : Shape (removed t x)
  removed_shape = removes.rest.shape

  pub removed_kept : Kept t → Kept (removed t x)
  removed_kept i = removes.rest.kept i (λ y. omega (arith, removes.counts (same_connection y), i.once y))

  -- what is the same as the one removed is gone, the rest stays
  pub removed_held : Kept t → (p : Held → Bool) → count_if p (held (removed t x)) ≡ count_if p (without (is_lsp x) (held t))
  removed_held i = count_gone (is_lsp x) (held t) (held (removed t x)) removes.gone removes.same (i.once (record { call = 0; lsp = x })) removes.counts
