-- What the look-ups of a connection say, under the calls and with the customers, in the words of the answers.
-- Assumes nothing.
use Prim.Native.Nat.{ℕ, ◌+◌, ◌<◌}
use mathlib.Core.Path.{◌≡◌, sym, ap, ◌∙◌}
use mathlib.Core.Bool.{Bool, true, false, not, ◌||◌, ◌&&◌}
use lib.Dec.{eqb, ltb}
use Rattle.std.proofs.Common.{Some, None}
use Rattle.std.specs.Option.{is_some}
use Rattle.lists.specs.Count.{count_if, has}
use Rattle.lists.specs.Below.{below, place_of}
use Rattle.lists.proofs.Count.{has_true, true_has, has_append, count_append}
use Rattle.table.specs.Table.{Table}
use Rattle.table.specs.Total.{slots}
use Rattle.table.specs.Word.{is_used}
use Rattle.table.specs.Lists.{customer_at, call_at, entries, Lsp, Held, call_four, customer_four, held_in, held_at, standalone_at, held}
use Rattle.table.specs.Rules.{is_lsp}
use Rattle.spec_changes.specs.Calls.{slot_of}
use Rattle.spec_changes.specs.Connections.{same_four, is_call_of, call_missing}
use Rattle.spec_changes.proofs.Slot.{found_slot}
use Rattle.spec_changes.proofs.Places.{found_row}
use Rattle.spec_changes.proofs.Firsts.{none_of, some_of, some_is}
use Rattle.spec_calls.specs.PathRules.{under_other}
use Rattle.find_connection.specs.declared.under.UnderLook.{UnderLook}
use Rattle.find_connection.specs.declared.standalone.StandaloneLook.{StandaloneLook}
use Rattle.find_connection.specs.Looks.{under_found_of, standalone_found_of, under_look_of, standalone_look_of}

-- both look-ups together
pub record Seen (t : Table) (x : Held) (u : UnderLook) (l : StandaloneLook) : Type 0 where
  pub other : (u.other || l.other) ≡ has (under_other x) (held t)
  pub here : (u.held || l.held) ≡ has (is_lsp x.lsp) (held t)
  pub four : u.four + l.four ≡ count_if (same_four x) (held t)
  pub missing : (none : Bool) → none ≡ eqb x.call 0 → (not none && not (is_some u.slot)) ≡ call_missing (entries t) x

pub seen : (t : Table) (x : Held) (u : UnderLook) (l : StandaloneLook) → u ≡ under_look_of t x → l ≡ standalone_look_of t x → Seen t x u l
unfolding under_look_of standalone_look_of
seen t x u l e f = record {
  other = rw (e, f) (sym (has_append (under_other x) (below (held_at t) slots) (below (standalone_at t) 8)));
  here = rw (e, f) (sym (has_append (is_lsp x.lsp) (below (held_at t) slots) (below (standalone_at t) 8)));
  four = rw (e, f) (sym (count_append (same_four x) (below (held_at t) slots) (below (standalone_at t) 8)));
  missing = λ none n. rw (n, e, some_is (has (is_call_of x) (entries t)) (slot_of t (is_call_of x)));
}

-- the call of a connection stands in one of the slots
module _ (t : Table) (x : Held) (u : UnderLook) (e : u ≡ under_look_of t x) where
  pub call_in : (n : ℕ) → u.slot ≡ Some n → (n ≡ slot_of t (is_call_of x)) × (n < slots)
  unfolding under_look_of
  call_in n h =
      let s = some_of _ _ _ (rw e at h) in
      (sym s.1, rw (← s.1) (found_slot t (is_call_of x) (has_true (is_call_of x) (entries t) s.0)).0)

-- ---- where a connection is held

-- under the call in this slot
pub record Under (t : Table) (x : Lsp) (i : ℕ) : Type 0 where
  pub inside : i < slots
  pub held : has (is_lsp x) (held_in (call_four (call_at t i))) ≡ true
  pub some : has (is_lsp x) (below (held_at t) slots) ≡ true
  pub place : i ≡ place_of (held_at t) (is_lsp x) slots

module _ (t : Table) (x : Lsp) where
  pub under_here : (i : ℕ) → Some i ≡ under_found_of t x → Under t x i
  unfolding under_found_of
  under_here i e =
      let s = some_of _ _ _ (sym e) in
      let f = found_row (is_lsp x) (is_used t.occupied) (λ i. held_in (call_four (call_at t i))) slots (has_true (is_lsp x) (below (held_at t) slots) s.0) in
      record {
        inside = rw (← s.1) f.0;
        held = rw (← s.1) (true_has (is_lsp x) (held_in (call_four (call_at t (place_of (held_at t) (is_lsp x) slots)))) f.2);
        some = s.0;
        place = sym s.1;
      }

  pub under_none : None ≡ under_found_of t x → has (is_lsp x) (below (held_at t) slots) ≡ false
  unfolding under_found_of
  under_none e = none_of _ _ (sym e)

  pub under_is_held : (i : ℕ) → Some i ≡ under_found_of t x → has (is_lsp x) (held t) ≡ true
  under_is_held i e =
      has_append (is_lsp x) (below (held_at t) slots) (below (standalone_at t) 8)
      ∙ ap (λ b. b || has (is_lsp x) (below (standalone_at t) 8)) (under_here i e).some

-- with this customer
pub record With (t : Table) (x : Lsp) (k : ℕ) : Type 0 where
  pub inside : k < 8
  pub held : has (is_lsp x) (held_in (customer_four (customer_at t k))) ≡ true
  pub some : has (is_lsp x) (below (standalone_at t) 8) ≡ true
  pub place : k ≡ place_of (standalone_at t) (is_lsp x) 8

module _ (t : Table) (x : Lsp) where
  pub standalone_here : (k : ℕ) → Some k ≡ standalone_found_of t x → With t x k
  unfolding standalone_found_of
  standalone_here k e =
      let s = some_of _ _ _ (sym e) in
      let f = found_row (is_lsp x) (λ k. ltb k t.listed) (λ k. held_in (customer_four (customer_at t k))) 8 (has_true (is_lsp x) (below (standalone_at t) 8) s.0) in
      record {
        inside = rw (← s.1) f.0;
        held = rw (← s.1) (true_has (is_lsp x) (held_in (customer_four (customer_at t (place_of (standalone_at t) (is_lsp x) 8)))) f.2);
        some = s.0;
        place = sym s.1;
      }

  pub standalone_none : None ≡ standalone_found_of t x → has (is_lsp x) (below (standalone_at t) 8) ≡ false
  unfolding standalone_found_of
  standalone_none e = none_of _ _ (sym e)

  -- not under a call: with a customer, or nowhere
  pub held_else : (b : Bool) → None ≡ under_found_of t x → has (is_lsp x) (below (standalone_at t) 8) ≡ b → has (is_lsp x) (held t) ≡ b
  held_else b u e = has_append (is_lsp x) (below (held_at t) slots) (below (standalone_at t) 8) ∙ rw (under_none t x u) e
