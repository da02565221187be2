-- A connection added: one more stands, the one that was to be added; roster and calls stay, and so do the rules.
-- Assumes nothing.
use Prim.Native.Nat.{ℕ, ◌+◌, ◌<◌}
use native.Mathlib.Omega.{arith}
use mathlib.Core.Path.{◌≡◌, refl, sym, ap, ◌∙◌}
use mathlib.Core.List.{[], ◌∷◌}
use mathlib.Core.Bool.{Bool, true, false, cond, not, ◌&&◌, or-true}
use lib.Dec.{ltb, eqb}
use lib.ListN.{length}
use lib.Seq.{get_or-set_same}
use borrow.Author.Tests.{eqb-true, eqb-false, eq-eqb, ne_eqb, not-true}
use Rattle.lists.specs.Count.{bit, count_if}
use Rattle.lists.specs.Below.{element_if}
use Rattle.lists.proofs.Tests.{both}
use Rattle.lists.proofs.Count.{has_true}
use Rattle.lists.proofs.Below.{count_element, has_element}
use Rattle.lists.proofs.Search.{Found, place_found}
use Rattle.table.specs.Table.{Call, Customer, Table}
use Rattle.table.specs.Zeros.{no_place, past_customer}
use Rattle.table.specs.Lists.{customer_at, terms_of, listed_at, roster, Entry, call_at, entry_of, entries, Held, Four, call_four, customer_four, place_at, is_taken, connection_at, held_place, held}
use Rattle.table.specs.Share.{is_at, is_listed}
use Rattle.table.specs.Rules.{same_connection, place_valid}
use Rattle.table.specs.Stores.{with_place, with_standalone_place}
use Rattle.spec_changes.specs.Shape.{Shape}
use Rattle.spec_changes.specs.Calls.{slot_of}
use Rattle.spec_changes.specs.Connections.{same_four, place_for, free_place, is_call_of, added_under, added_standalone, customer_of, added}
use Rattle.spec_changes.proofs.Kept.{Kept}
use Rattle.spec_changes.proofs.Slot.{found_slot, call_here}
use Rattle.spec_changes.proofs.Places.{free_found}
use Rattle.spec_changes.proofs.Connections.{SameCalls, OnePlace, place_held, once_more}
use Rattle.spec_changes.proofs.Standalone.{standalone_place}
use Rattle.spec_changes.proofs.Under.{under_place}

-- what an addition needs
pub record MayAdd (t : Table) (x : Held) : Type 0 where
  pub known : is_listed (roster t) x.lsp.sender ≡ true
  pub new : count_if (same_connection x) (held t) ≡ 0
  pub call : (x.call ≡ 0 → ⊥) → 0 < count_if (is_call_of x) (entries t)
  pub room : count_if (same_four x) (held t) < 4
  pub valid : place_valid (place_for x.lsp) ≡ true

-- what it gives
record Adds (t u : Table) (x : Held) : Type 0 where
  pub same : SameCalls t u
  pub more : (p : Held → Bool) → count_if p (held u) ≡ bit (p x) + count_if p (held t)

-- ---- in a four whose connections all count among the new one's four

adds_in : (t u : Table) (x : Held) (f g : Four) → OnePlace t u f g (free_place f) → count_if (same_four x) (held t) < 4
    → ((j : ℕ) → same_four x (connection_at f j) ≡ true) → (free_place f < 4 → held_place g (free_place f) ≡ x ∷ []) → Adds t u x
adds_in t u x f g o room own new =
    let j = free_place f in
    let k = free_found f (same_four x) own (omega (arith, room, o.within (same_four x))) in
    record {
      same = o.same;
      more = λ p. omega (
        arith,
        place_held t u f g j k.inside o p,
        count_element p (is_taken (place_at f j)) (connection_at f j) ∙ ap (λ b. bit (b && p (connection_at f j))) (not-true (is_taken (place_at f j)) k.passes),
        ap (count_if p) (new k.inside),
      );
    }

-- ---- with Call ID 0: what stands with the sender's customer

module _ (x : Held) (c : Customer) (none : x.call ≡ 0) (own : x.lsp.sender ≡ c.address) where
  standalone_four : (j : ℕ) → same_four x (connection_at (customer_four c) j) ≡ true
  standalone_four j = rw (none, own, eq-eqb c.address c.address refl)

  standalone_is : (j : ℕ) → length c.endpoints ≡ 4 → length c.places ≡ 4 → j < 4
      → held_place (customer_four (with_standalone_place c j x.lsp.endpoint (place_for x.lsp))) j ≡ x ∷ []
  unfolding element_if
  standalone_is j a b h =
      rw (get_or-set_same c.places j (place_for x.lsp) no_place (omega arith), get_or-set_same c.endpoints j x.lsp.endpoint 0 (omega arith), none, own)

-- ---- under a call: what stands there

module _ (x : Held) (c : Call) (i : ℕ) (h : is_call_of x (entry_of i c) ≡ true) where
  of_call : (x.call ≡ c.id) × (x.lsp.endpoint ≡ c.endpoint) × (x.lsp.sender ≡ c.sender)
  of_call =
      let k = both (eqb x.call c.id && eqb x.lsp.endpoint c.endpoint) (eqb x.lsp.sender c.sender) h in
      let m = both (eqb x.call c.id) (eqb x.lsp.endpoint c.endpoint) k.0 in
      (eqb-true _ _ m.0, eqb-true _ _ m.1, eqb-true _ _ k.1)

  pub under_four : (j : ℕ) → same_four x (connection_at (call_four c) j) ≡ true
  under_four j =
      rw (of_call.0, of_call.1, of_call.2, eq-eqb c.id c.id refl, eq-eqb c.endpoint c.endpoint refl, eq-eqb c.sender c.sender refl)
      (or-true (eqb c.id 0))

  under_is : (j : ℕ) → length c.places ≡ 4 → j < 4 → held_place (call_four (with_place c j (place_for x.lsp))) j ≡ x ∷ []
  unfolding element_if
  under_is j b h = rw (get_or-set_same c.places j (place_for x.lsp) no_place (omega arith), of_call.0, of_call.1, of_call.2)

module _ (t : Table) (x : Held) (s : Shape t) (m : MayAdd t x) where
  adds_standalone : x.call ≡ 0 → Adds t (added_standalone t (customer_of t x.lsp.sender) x.lsp) x
  unfolding added_standalone
  adds_standalone none =
      let k = customer_of t x.lsp.sender in
      let c = customer_at t k in
      let j = free_place (customer_four c) in
      let q = place_for x.lsp in
      let f = place_found (listed_at t) (is_at x.lsp.sender) 8 (has_true _ (roster t) m.known) in
      let h = both (ltb k t.listed) (is_at x.lsp.sender (terms_of c)) (sym (has_element _ (ltb k t.listed) (terms_of c)) ∙ f.passes) in
      let own : x.lsp.sender ≡ c.address = eqb-true _ _ h.1 in
      adds_in t _ x (customer_four c) (customer_four (with_standalone_place c j x.lsp.endpoint q))
      (standalone_place t s k j x.lsp.endpoint q f.inside h.0 m.valid refl) m.room
      (standalone_four x c none own) (standalone_is x c none own j (s.endpoints k f.inside) (s.standalone_places k f.inside))

  adds_under : (x.call ≡ 0 → ⊥) → Adds t (added_under t (slot_of t (is_call_of x)) x.lsp) x
  unfolding added_under
  adds_under some =
      let i = slot_of t (is_call_of x) in
      let c = call_at t i in
      let j = free_place (call_four c) in
      let q = place_for x.lsp in
      let f = found_slot t (is_call_of x) (m.call some) in
      adds_in t _ x (call_four c) (call_four (with_place c j q))
      (under_place t s i j q f.0 f.1 m.valid) m.room
      (under_four x c i f.2) (under_is x c i f.2 j (s.places i f.0))

  adds : Adds t (added t x) x
  unfolding added
  adds = by (eqb x.call 0) refl
    where
      by : (b : Bool) → eqb x.call 0 ≡ b
          → Adds t (cond b (added_standalone t (customer_of t x.lsp.sender) x.lsp) (added_under t (slot_of t (is_call_of x)) x.lsp)) x
      by true e = adds_standalone (eqb-true _ _ e)
      by false e = adds_under (eqb-false _ _ e)

  pub added_roster : roster (added t x) ≡ roster t
  added_roster = adds.same.roster

  pub added_entries : (p : Entry → Bool) → count_if p (entries (added t x)) ≡ count_if p (entries t)
  added_entries = adds.same.entries

  pub added_held : (p : Held → Bool) → count_if p (held (added t x)) ≡ bit (p x) + count_if p (held t)
  added_held = adds.more

  pub added_shape : Shape (added t x)
  added_shape = adds.same.shape

  pub added_kept : Kept t → Kept (added t x)
  added_kept i = adds.same.kept i (once_more (held t) (held (added t x)) x added_held m.new i.once)

-- ---- where it goes: the four g is f with the connection in its lowest free place

pub record Put (f g : Four) (x : Held) : Type 0 where
  pub free : Found (λ j. not (is_taken (place_at f j))) 4 (free_place f)
  pub there : held_place g (free_place f) ≡ x ∷ []
  pub other : (j : ℕ) → (j ≡ free_place f → ⊥) → held_place g j ≡ held_place f j

put_in : (t u : Table) (x : Held) (f g : Four) → OnePlace t u f g (free_place f) → count_if (same_four x) (held t) < 4
    → ((j : ℕ) → same_four x (connection_at f j) ≡ true) → (free_place f < 4 → held_place g (free_place f) ≡ x ∷ []) → Put f g x
put_in t u x f g o room own new =
    let k = free_found f (same_four x) own (omega (arith, room, o.within (same_four x))) in
    record { free = k; there = new k.inside; other = o.other }

module _ (t : Table) (x : Held) (s : Shape t) (m : MayAdd t x) where
  pub put_standalone : x.call ≡ 0 → let k = customer_of t x.lsp.sender in Put (customer_four (customer_at t k)) (customer_four (customer_at (added t x) k)) x
  unfolding added added_standalone
  put_standalone none =
      let k = customer_of t x.lsp.sender in
      let c = customer_at t k in
      let j = free_place (customer_four c) in
      let f = place_found (listed_at t) (is_at x.lsp.sender) 8 (has_true _ (roster t) m.known) in
      let h = both (ltb k t.listed) (is_at x.lsp.sender (terms_of c)) (sym (has_element _ (ltb k t.listed) (terms_of c)) ∙ f.passes) in
      let own : x.lsp.sender ≡ c.address = eqb-true _ _ h.1 in
      rw (eq-eqb x.call 0 none, get_or-set_same t.customers k _ past_customer (omega (arith, s.customers, f.inside)))
      (put_in t _ x (customer_four c) _
      (standalone_place t s k j x.lsp.endpoint (place_for x.lsp) f.inside h.0 m.valid refl) m.room
      (standalone_four x c none own) (standalone_is x c none own j (s.endpoints k f.inside) (s.standalone_places k f.inside)))

  pub put_under : (x.call ≡ 0 → ⊥) → let i = slot_of t (is_call_of x) in Put (call_four (call_at t i)) (call_four (call_at (added t x) i)) x
  unfolding added added_under
  put_under some =
      let i = slot_of t (is_call_of x) in
      let c = call_at t i in
      let j = free_place (call_four c) in
      let f = found_slot t (is_call_of x) (m.call some) in
      rw (ne_eqb x.call 0 some, call_here t t.occupied i _ f.0 s.calls)
      (put_in t _ x (call_four c) _
      (under_place t s i j (place_for x.lsp) f.0 f.1 m.valid) m.room
      (under_four x c i f.2) (under_is x c i f.2 j (s.places i f.0)))
