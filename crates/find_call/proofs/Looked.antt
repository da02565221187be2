-- What the look-up of a request knows after some of the slots.
-- Assumes nothing.
use Rattle.std.proofs.Common.{◌≡◌, ℕ, ◌+◌, ◌≤◌, Bool, true, false, ◌&&◌, ◌||◌, Option, None, sym, refl, ap, ◌∙◌}
use Rattle.std.specs.Bool.{then_some}
use Rattle.std.specs.Option.{option_or}
use mathlib.Core.Bool.{or-false}
use Rattle.lists.specs.Count.{has}
use Rattle.lists.specs.Below.{below, place_of}
use Rattle.lists.proofs.Below.{has_none, has_element, has_turn, has_turns}
use Rattle.lists.proofs.Search.{place_rest}
use Rattle.table.specs.Table.{Call, Table}
use Rattle.table.specs.Total.{slots}
use Rattle.table.specs.Word.{is_used, FreeFrom}
use Rattle.table.specs.Lists.{Ids, Entry, call_at, ids_of, entry_of, open_at, call_four, held_in, held_at}
use Rattle.table.specs.Rules.{same_short, same_long}
use Rattle.table.proofs.Slots.{open_free, open_rest, held_rest}
use Rattle.spec_changes.specs.Calls.{is_call}
use Rattle.spec_changes.specs.Connections.{is_under}
use Rattle.spec_changes.proofs.Firsts.{found_none, found_more, or_none}
use Rattle.spec_calls.specs.CallRules.{is_open, short_in_use, long_in_use}
use Rattle.find_call.specs.declared.request.Look.{Look}
use Rattle.find_call.specs.Looks.{look_of, look_with}

-- what a look says, of the first `i` slots alone
pub record Looked (t : Table) (c : Ids) (i : ℕ) (w : Look) : Type 0 where
  pub slot : w.slot ≡ then_some (is_open (below (open_at t) i) c) (place_of (open_at t) (is_call c) i)
  pub long : w.long ≡ long_in_use (below (open_at t) i) c
  pub short : w.short ≡ short_in_use (below (open_at t) i) c
  pub busy : w.busy ≡ has (is_under c) (below (held_at t) i)

module _ (t : Table) (c : Ids) where
  pub look_none : Looked t c 0 (record { slot = None; long = false; short = false; busy = false })
  look_none = record {
    slot = found_none _ _ (has_none _ _);
    long = sym (has_none _ _);
    short = sym (has_none _ _);
    busy = sym (has_none _ _);
  }

  -- one more slot
  pub look_turn : (i : ℕ) (used : Bool) (w : Look) → used ≡ is_used t.occupied i → Looked t c i w → Looked t c (i + 1) (look_with w i used (call_at t i) c)
  unfolding look_with
  look_turn i used w e h =
      let u = is_used t.occupied i in
      let x : Entry = entry_of i (call_at t i) in
      rw e
      (record {
        slot = ap (λ o. option_or o (then_some (u && is_call c x) i)) h.slot ∙ found_more (open_at t) (is_call c) i _ (sym (has_element (is_call c) u x));
        long = has_turn (open_at t) (λ e. same_long c e.ids) i w.long _ u x refl h.long refl;
        short = has_turn (open_at t) (λ e. same_short c e.ids) i w.short _ u x refl h.short refl;
        busy = has_turns (held_at t) (is_under c) i w.busy _ u (held_in (call_four (call_at t i))) refl h.busy refl;
      })

  -- the slots behind the last used one say nothing
  pub look_all : (n : ℕ) (w : Look) → n ≤ slots → FreeFrom t.occupied n → Looked t c n w → w ≡ look_of t c
  unfolding look_of
  look_all n w l free h =
      rw (open_rest t n l free, held_rest t n l free, place_rest (open_at t) (is_call c) n slots l (open_free t n free), ← h.slot, ← h.long, ← h.short, ← h.busy)

module _ (w : Look) (i : ℕ) (used : Bool) (d : Call) (c : Ids) where
  -- whether a slot has the long ID, the short ID, and connections under that
  abbrev Says : Bool → Bool → Bool → Type 0
  Says l s b = (l ≡ (used && same_long c (ids_of d))) × (s ≡ (used && same_short c (ids_of d))) × (b ≡ (used && has (is_under c) (held_in (call_four d))))

  pub look_changed : (o : Option ℕ) (l s b : Bool) → Says l s b → o ≡ option_or w.slot (then_some (s && l) i)
      → record { slot = o; long = w.long || l; short = w.short || s; busy = w.busy || b } ≡ look_with w i used d c
  unfolding look_with
  look_changed o l s b h e =
      let here : (s && l) ≡ (used && (same_short c (ids_of d) && same_long c (ids_of d))) = rw (h.0, h.1) (by used (same_short c (ids_of d)) (same_long c (ids_of d))) in
      rw (e, here, h.0, h.1, h.2)
    where
      by : (u a b : Bool) → (u && a && (u && b)) ≡ (u && (a && b))
      by true a b = refl
      by false a b = refl

  -- a slot that has none of them changes nothing
  pub look_kept : Says false false false → w ≡ look_with w i used d c
  look_kept h = rw (or-false w.long, or-false w.short, or-false w.busy) at (look_changed w.slot false false false h (or_none w.slot))
