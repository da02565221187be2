-- A call beside a request: only a call of the request's pair has its IDs, or connections under its short ID.
-- Assumes nothing.
use Rattle.std.proofs.Common.{◌≡◌, Bool, true, false, not, ◌&&◌, eqb, sym, refl}
use mathlib.Core.Bool.{and_assoc, and-true}
use borrow.Author.Tests.{not-true, not-false}
use Rattle.lists.specs.Count.{has}
use Rattle.lists.proofs.Shown.{has_shown}
use Rattle.lists.proofs.Tests.{eqb_swap}
use Rattle.table.specs.Table.{Call}
use Rattle.table.specs.Lists.{Ids, ids_of, call_four, place_at, is_taken, connection_at, held_in}
use Rattle.table.specs.Rules.{same_bytes, same_pair, same_short, same_long}
use Rattle.spec_changes.specs.Connections.{is_under}

module _ (c : Ids) (d : Call) (used : Bool) where
  abbrev pair : Bool
  pair = used && same_pair c (ids_of d)

  long_by_pair : (used && same_long c (ids_of d)) ≡ (pair && same_bytes c.long (ids_of d).long)
  unfolding same_long
  long_by_pair = sym (and_assoc used (same_pair c (ids_of d)) _)

  short_by_pair : (used && same_short c (ids_of d)) ≡ (pair && eqb c.short d.id)
  unfolding same_short
  short_by_pair = sym (and_assoc used (same_pair c (ids_of d)) _)

  busy_by_pair : (used && has (is_under c) (held_in (call_four d))) ≡ (pair && (eqb c.short d.id && has (λ x. true) (held_in (call_four d))))
  busy_by_pair =
      let s = eqb c.short d.id in
      let e = eqb c.endpoint d.endpoint in
      let f = eqb c.sender d.sender in
      rw (has_shown (λ j. is_taken (place_at (call_four d) j)) (connection_at (call_four d)) (is_under c) (λ x. true) (s && e && f) 4 (λ j.
      rw (eqb_swap d.id c.short, eqb_swap d.endpoint c.endpoint, eqb_swap d.sender c.sender) (sym (and-true (s && e && f)))))
      (by used s e f (has (λ x. true) (held_in (call_four d))))
    where
      by : (u a b c m : Bool) → (u && (a && b && c && m)) ≡ (u && (b && c) && (a && m))
      by true true b c m = refl
      by true false true true m = refl
      by true false true false m = refl
      by true false false c m = refl
      by false a b c m = refl

  -- a slot of another pair, or a free one
  pub another_pair : not pair ≡ true
      → (false ≡ (used && same_long c (ids_of d))) × (false ≡ (used && same_short c (ids_of d))) × (false ≡ (used && has (is_under c) (held_in (call_four d))))
  another_pair h =
      let n = not-true pair h in
      (rw (long_by_pair, n), rw (short_by_pair, n), rw (busy_by_pair, n))

  -- a call of the pair: whether it has the long ID, the short one, and connections under it
  pub the_pair : not pair ≡ false → (l s b : Bool) → l ≡ same_bytes c.long (ids_of d).long → s ≡ eqb c.short d.id → b ≡ has (λ x. true) (held_in (call_four d))
      → (l ≡ (used && same_long c (ids_of d))) × (s ≡ (used && same_short c (ids_of d)))
      × ((s && b) ≡ (used && has (is_under c) (held_in (call_four d))))
  the_pair h l s b e k f =
      let n = not-false pair h in
      (rw (long_by_pair, n) e, rw (short_by_pair, n) k, rw (busy_by_pair, n, k, f))
