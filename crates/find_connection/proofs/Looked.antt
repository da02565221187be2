-- What the look under the calls knows of a connection after some of the slots.
-- Assumes nothing.
use Prim.Native.Nat.{ℕ, ◌+◌, ◌≤◌}
use native.Mathlib.Nat.{add-zero}
use mathlib.Core.Path.{◌≡◌, refl, sym, ap, ◌∙◌}
use mathlib.Core.Bool.{Bool, false, ◌&&◌, ◌||◌, or-false}
use Rattle.std.proofs.Common.{Option, None}
use Rattle.std.specs.Bool.{then_some}
use Rattle.std.specs.Option.{option_or}
use Rattle.lists.specs.Count.{has}
use Rattle.lists.specs.Below.{below, place_of}
use Rattle.lists.proofs.Below.{has_none, has_element}
use Rattle.lists.proofs.Search.{place_rest}
use Rattle.table.specs.Table.{Call, Table}
use Rattle.table.specs.Total.{slots}
use Rattle.table.specs.Word.{is_used, FreeFrom}
use Rattle.table.specs.Lists.{call_at, ids_of, entry_of, open_at, entries, Held, call_four, held_in, held_at}
use Rattle.table.proofs.Slots.{open_free, open_rest, held_free}
use Rattle.spec_changes.specs.Connections.{is_under, is_call_of}
use Rattle.spec_changes.proofs.Firsts.{found_none, found_more, or_none}
use Rattle.find_connection.specs.declared.under.UnderLook.{UnderLook}
use Rattle.find_connection.specs.Looks.{Matched, under_look_of, under_look_with}
use Rattle.find_connection.proofs.Rows.{Looked, looked_none, looked_turn, looked_rest}

-- what a look says, of the first `i` slots alone
pub record LookedUnder (t : Table) (x : Held) (i : ℕ) (w : UnderLook) : Type 0 where
  pub held : Looked (held_at t) x i w.other w.held w.four
  pub slot : w.slot ≡ then_some (has (is_call_of x) (below (open_at t) i)) (place_of (open_at t) (is_call_of x) i)

module _ (t : Table) (x : Held) where
  pub look_none : LookedUnder t x 0 (record { other = false; held = false; four = 0; slot = None })
  look_none = record { held = looked_none (held_at t) x; slot = found_none _ _ (has_none (open_at t) (is_call_of x)) }

  pub look_turn : (i : ℕ) (used : Bool) (w : UnderLook) → used ≡ is_used t.occupied i → LookedUnder t x i w
      → LookedUnder t x (i + 1) (under_look_with w i used (call_at t i) x)
  unfolding under_look_with
  look_turn i used w e h = rw e (record {
    held = looked_turn (held_at t) x (is_used t.occupied i) (held_in (call_four (call_at t i))) refl h.held refl refl refl;
    slot = ap (λ o. option_or o (then_some (is_used t.occupied i && is_call_of x (entry_of i (call_at t i))) i)) h.slot ∙ found_more (open_at t) (is_call_of x) i _ (sym (has_element _ _ _));
  })

  -- the slots behind the last used one say nothing
  pub look_all : (n : ℕ) (w : UnderLook) → n ≤ slots → FreeFrom t.occupied n → LookedUnder t x n w → w ≡ under_look_of t x
  unfolding under_look_of
  look_all n w l free h =
      let k = looked_rest (held_at t) x slots l (held_free t n free) h.held in
      let s : w.slot ≡ then_some (has (is_call_of x) (entries t)) (place_of (open_at t) (is_call_of x) slots) =
      rw (open_rest t n l free, place_rest (open_at t) (is_call_of x) n slots l (open_free t n free)) h.slot in
      rw (← k.other, ← k.held, ← k.four, ← s)

module _ (w : UnderLook) (i : ℕ) (used : Bool) (c : Call) (x : Held) where
  pub look_changed : (other held here : Bool) (four : ℕ) (o : Option ℕ) → Matched used x (held_in (call_four c)) other held four → here ≡ (used && is_under (ids_of c) x)
      → o ≡ option_or w.slot (then_some here i)
      → record { other = w.other || other; held = w.held || held; four = w.four + four; slot = o } ≡ under_look_with w i used c x
  unfolding under_look_with
  look_changed other held here four o m h e = rw (e, m.0, m.1, m.2, h)

  -- a slot that has nothing of the connection changes nothing
  pub look_kept : Matched used x (held_in (call_four c)) false false 0 → false ≡ (used && is_under (ids_of c) x) → w ≡ under_look_with w i used c x
  look_kept m h =
      rw (or-false w.other, or-false w.held, add-zero w.four) at (look_changed false false false 0 w.slot m h (or_none w.slot))
