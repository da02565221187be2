-- Every object that the walk has seen lies within the message, with the length of its row.
-- Assumes nothing.
use Prim.Native.Nat.{ℕ, zero, suc, ◌+◌, ◌-◌, ◌≤◌, ◌<◌}
use native.Mathlib.Omega.{arith}
use mathlib.Core.Path.{◌≡◌, refl, sym, ap, subst, ◌∙◌}
use mathlib.Core.List.{List, [], ◌∷◌}
use mathlib.Core.Bool.{Bool, true, false, cond, not, ◌&&◌, and-true, and-false}
use lib.ListN.{length}
use lib.Dec.{eqb}
use borrow.Author.Tests.{eqb-true, not-false}
use Rattle.numbers.specs.BigEndian.{be16_at}
use Rattle.numbers.specs.Search.{is_in, zeros_at}
use Rattle.objects.specs.declared.object.Object.{Object}
use Rattle.objects.specs.Item.{Item}
use Rattle.std.specs.Prelude.{Some, None, Ok, Err}
use Rattle.objects.specs.declared.walk.Seen.{Seen}
use Rattle.objects.specs.declared.walk.Objects.{Objects}
use Rattle.objects.specs.Walk.{Walked}
use Rattle.objects.specs.Classes.{session, error_spec, sender_template, message_id, admin_status, session_attribute, passed_over}
use Rattle.objects.specs.Forms.{has_form, name_length, rounded_up_to4, attribute_formed, formed, misformed}
use Rattle.objects.specs.Item.{item_at}
use Rattle.objects.specs.Walk.{seen, objects_of, on_item, walk_from, walk_of}
use Rattle.objects.specs.Placed.{Reaches, NameReaches, Placed}
use Rattle.objects.proofs.Steps.{found_at}

-- each object read is the one that stands at its place
abbrev AllFound : List ℕ → List Object → Type 0
AllFound s [] = Unit {0}
AllFound s (o ∷ read) = (item_at s o.at ≡ Ok (Some o)) × AllFound s read

-- what is said of a class is said of an object of that class, at its place
abbrev StandsAt : List ℕ → ℕ → Seen → Type 0
StandsAt s class v = (o : Object) × (item_at s o.at ≡ Ok (Some o)) × (o.class ≡ class) × (v.at ≡ o.at)

seen_found : (s : List ℕ) (class : ℕ) (read : List Object) → AllFound s read → 0 < (seen class read).times → StandsAt s class (seen class read)
unfolding seen
seen_found s class [] all h = absurd (omega arith)
seen_found s class (o ∷ read) all h = by (eqb o.class class) refl (seen_found s class read all.1) h
  where
    by : (b : Bool) → eqb o.class class ≡ b → (0 < (seen class read).times → StandsAt s class (seen class read))
        → 0 < (cond b (record { at = o.at; times = (seen class read).times + 1 }) (seen class read)).times
        → StandsAt s class (cond b (record { at = o.at; times = (seen class read).times + 1 }) (seen class read))
    by true e earlier h = (o, all.0, eqb-true _ _ e, refl)
    by false e earlier h = earlier h

-- a row's tests passed, so its length holds
row_length : (l len : ℕ) (a : Bool) → not (a && eqb l len) ≡ false → l ≡ len
row_length l len true e = eqb-true l len (not-false _ e)
row_length l len false e = let z : ◌≡◌ {A = ℕ} 0 1 = cc in absurd (omega arith)

attribute_length : (l len : ℕ) (a z : Bool) → not (a && eqb l len && z) ≡ false → l ≡ len
attribute_length l len a true e = row_length l len a (ap not (sym (and-true (a && eqb l len))) ∙ e)
attribute_length l len a false e =
    let d : not (a && eqb l len && false) ≡ true = ap not (and-false (a && eqb l len)) in
    let z : ◌≡◌ {A = ℕ} 0 1 = cc in absurd (omega arith)

module _ (s : List ℕ) (read : List Object) (all : AllFound s read) where
  -- the object that was last seen of a class, as one of that class
  last : (class : ℕ) → 0 < (seen class read).times
      → (t at l : ℕ) × (misformed s (record { class = class; ctype = t; at = at; len = l }) ≡ false) × (at + l ≤ length s) × ((seen class read).at ≡ at) × (be16_at s at ≡ l)
  last class h =
      let w = seen_found s class read all h in
      let o = w.0 in
      let f = found_at s o.at o w.1 in (
        o.ctype,
        o.at,
        o.len,
        sym (ap (λ (k : ℕ). misformed s (record { class = k; ctype = o.ctype; at = o.at; len = o.len })) w.2) ∙ f.form,
        f.fits,
        w.3,
        ap (λ (p : Object). p.len) f.is,
      )

  reaches : (class len : ℕ) → ((t at l : ℕ) → misformed s (record { class = class; ctype = t; at = at; len = l }) ≡ false → l ≡ len) → Reaches s (seen class read) len
  reaches class len rule h =
      let w = last class h in
      omega (arith, rule w.0 w.1 w.2 w.3, w.4, w.5)

  name_reaches : NameReaches s (seen session_attribute read)
  unfolding misformed formed attribute_formed passed_over has_form is_in
  name_reaches h =
      let w = last session_attribute h in
      let e : w.2 ≡ 8 + rounded_up_to4 (name_length s w.1) = attribute_length w.2 (8 + rounded_up_to4 (name_length s w.1)) (eqb w.0 7) (zeros_at s (w.1 + 8 + name_length s w.1) (w.2 - 8 - name_length s w.1)) w.3 in
      rw w.5 (w.6 ∙ e, omega (arith, w.4, w.6))

  placed : Placed s (objects_of read)
  unfolding objects_of misformed formed passed_over has_form is_in
  placed = record {
    session = reaches session 16 (λ t at l e. row_length l 16 (eqb t 7) e);
    error = reaches error_spec 12 (λ t at l e. row_length l 12 (eqb t 1) e);
    template = reaches sender_template 12 (λ t at l e. row_length l 12 (eqb t 7) e);
    identifier = reaches message_id 12 (λ t at l e. row_length l 12 (eqb t 1) e);
    status = reaches admin_status 8 (λ t at l e. row_length l 8 (eqb t 1) e);
    attribute = name_reaches;
  }

same : (v w : Objects) → ◌≡◌ {A = Walked} (Ok v) (Ok w) → v ≡ w
same v w e = cc

-- one step, with what the rest of the walk keeps
step : (s : List ℕ) (at : ℕ) (read : List Object) (v : Objects) (rest : ℕ → List Object → Walked)
    → ((at' : ℕ) (read' : List Object) → AllFound s read' → rest at' read' ≡ Ok v → Placed s v)
    → AllFound s read → (i : Item) → item_at s at ≡ i → on_item i at read rest ≡ Ok v → Placed s v
step s at read v rest keep all (Ok None) e d = subst (Placed s) (same _ v d) (placed s read all)
step s at read v rest keep all (Err fault) e d = let z : ◌≡◌ {A = ℕ} 0 1 = cc in absurd (omega arith)
step s at read v rest keep all (Ok (Some o)) e d =
    let f = found_at s at o e in
    let here : item_at s o.at ≡ Ok (Some o) = ap (item_at s) (sym (ap (λ (p : Object). p.at) f.is)) ∙ e in
    keep (at + o.len) (o ∷ read) (here, all) d

placed_from : (n : ℕ) (s : List ℕ) (at : ℕ) (read : List Object) (v : Objects) → AllFound s read → walk_from n s at read ≡ Ok v → Placed s v
unfolding walk_from
placed_from zero s at read v all e = subst (Placed s) (same _ v e) (placed s read all)
placed_from (suc n) s at read v all e = step s at read v (walk_from n s) (λ at' read'. placed_from n s at' read' v) all (item_at s at) refl e

pub walk_placed : (s : List ℕ) (v : Objects) → walk_of s ≡ Ok v → Placed s v
unfolding walk_of
walk_placed s v e = placed_from (length s) s 8 [] v tt e
