-- What `item_at` says of an object that it finds, and what the walk does at an end, a fault and an object.
-- Assumes nothing.
use Prim.Native.Nat.{ℕ, zero, suc, ◌+◌, ◌-◌, ◌*◌, ◌%◌, ◌≤◌, ◌<◌}
use native.Mathlib.Omega.{arith}
use native.Mathlib.Numerals.{add-one}
use mathlib.Core.Path.{◌≡◌, refl, ap, ◌∙◌}
use mathlib.Core.List.{List, [], ◌∷◌}
use mathlib.Core.Bool.{Bool, true, false, cond, not, ◌||◌}
use lib.ListN.{length, get_or}
use lib.Dec.{leb, ltb, eqb}
use borrow.Author.Tests.{le-leb, ltb-false, eqb-true, not-false}
use Rattle.numbers.specs.BigEndian.{be16_at}
use Rattle.objects.specs.declared.fault.Fault.{Fault}
use Rattle.objects.specs.declared.fault.Fault.TheVariants.{ObjectLength, ObjectClass, ObjectForm}
use Rattle.objects.specs.declared.object.Object.{Object}
use Rattle.std.specs.Prelude.{Some, None, Ok, Err}
use Rattle.objects.specs.declared.walk.Objects.{Objects}
use Rattle.objects.specs.Walk.{stopped_at}
use Rattle.objects.specs.Classes.{session, error_spec, sender_template, message_id, admin_status, session_attribute, refused_class}
use Rattle.objects.specs.Forms.{misformed}
use Rattle.objects.specs.Item.{object_at, bad_length, item_at}
use Rattle.objects.specs.Walk.{with_object, seen, objects_of, walk_from, walk_of}

-- a length that is not bad: the object has a header, it lies within the message, and its length is a multiple of 4
pub good_length : (s : List ℕ) (at : ℕ) → bad_length s at ≡ false → (4 ≤ be16_at s at) × (at + be16_at s at ≤ length s) × (be16_at s at % 4 ≡ 0)
unfolding bad_length
good_length s at e = by (ltb (length s - at) 4) (ltb (be16_at s at) 4) (not (eqb (be16_at s at % 4) 0)) (ltb (length s - at) (be16_at s at)) refl refl refl refl e
  where
    by : (a b d f : Bool) → ltb (length s - at) 4 ≡ a → ltb (be16_at s at) 4 ≡ b → not (eqb (be16_at s at % 4) 0) ≡ d → ltb (length s - at) (be16_at s at) ≡ f
        → (a || (b || d || f)) ≡ false → (4 ≤ be16_at s at) × (at + be16_at s at ≤ length s) × (be16_at s at % 4 ≡ 0)
    by true b d f p q m r e = let z : ◌≡◌ {A = ℕ} 0 1 = cc in absurd (omega arith)
    by false true d f p q m r e = let z : ◌≡◌ {A = ℕ} 0 1 = cc in absurd (omega arith)
    by false false true f p q m r e = let z : ◌≡◌ {A = ℕ} 0 1 = cc in absurd (omega arith)
    by false false false true p q m r e = let z : ◌≡◌ {A = ℕ} 0 1 = cc in absurd (omega arith)
    by false false false false p q m r e =
        let h : 4 ≤ length s - at = ltb-false _ _ p in
        let k : 4 ≤ be16_at s at = ltb-false _ _ q in
        let l : be16_at s at ≤ length s - at = ltb-false _ _ r in
        (omega arith, omega arith, eqb-true _ _ (not-false _ m))

no_object : {P : Type 0} {fault : Fault} {o : Object} → Err fault ≡ Ok (Some o) → P
no_object e = let z : ◌≡◌ {A = ℕ} 0 1 = cc in absurd (omega arith)

-- the choices of `item_at`, where an object came out
came : (a b d f : Bool) (p o : Object)
    → cond a (Ok None) (cond b (Err ObjectLength) (cond d (Err ObjectClass) (cond f (Err ObjectForm) (Ok (Some p))))) ≡ Ok (Some o)
    → (b ≡ false) × (f ≡ false) × (p ≡ o)
came true b d f p o e = let z : ◌≡◌ {A = ℕ} 0 1 = cc in absurd (omega arith)
came false true d f p o e = no_object e
came false false true f p o e = no_object e
came false false false true p o e = no_object e
came false false false false p o e = (refl, refl, (cc))

-- an object that is found at a place
pub record FoundAt (s : List ℕ) (at : ℕ) (o : Object) : Type 0 where
  pub is : object_at s at ≡ o
  pub header : 4 ≤ o.len
  pub fits : at + o.len ≤ length s
  pub fours : o.len % 4 ≡ 0
  pub form : misformed s o ≡ false

pub found_at : (s : List ℕ) (at : ℕ) (o : Object) → item_at s at ≡ Ok (Some o) → FoundAt s at o
unfolding item_at
found_at s at o e =
    let w = came (leb (length s) at) (bad_length s at) (refused_class (get_or s (at + 2) 0)) (misformed s (object_at s at)) (object_at s at) o e in
    let g = good_length s at w.0 in
    let l : be16_at s at ≡ o.len = ap (λ (p : Object). p.len) w.2 in
    record { is = w.2; header = omega arith; fits = omega arith; fours = rw l at g.2; form = rw w.2 at w.1 }

-- an object seen took its turn: no class was seen more often than objects came
pub seen_times : (class : ℕ) (read : List Object) → (seen class read).times ≤ length read
unfolding seen
seen_times class [] = omega arith
seen_times class (o ∷ read) = by (eqb o.class class) (seen_times class read)
  where
    by : (b : Bool) → (seen class read).times ≤ length read
        → (cond b (record { at = o.at; times = (seen class read).times + 1 }) (seen class read)).times ≤ suc (length read)
    by true h = omega arith
    by false h = omega arith

grown : (o : Object) (read : List Object) → with_object o (objects_of read) ≡ objects_of (o ∷ read)
unfolding objects_of seen
grown o read = ap (λ (n : ℕ). record {
  session = seen session (o ∷ read);
  error = seen error_spec (o ∷ read);
  template = seen sender_template (o ∷ read);
  identifier = seen message_id (o ∷ read);
  status = seen admin_status (o ∷ read);
  attribute = seen session_attribute (o ∷ read);
  headers = n;
}) (add-one (length read))

past : (s : List ℕ) (at : ℕ) → length s ≤ at → item_at s at ≡ (Ok None)
unfolding item_at
past s at h = rw (le-leb _ _ h)

-- the walk has come to a place: what it has seen is `objects_of` the objects read, of which each took four bytes or more,
-- and the walk from here is the walk of the message
pub record Walking (s : List ℕ) (v : Objects) (at : ℕ) : Type 0 where
  pub read : List Object
  pub left : ℕ
  pub sees : v ≡ objects_of read
  pub took : 8 + 4 * length read ≤ at
  pub near : at ≤ 8 + length s
  pub enough : length s ≤ at + left
  pub rest : walk_from left s at read ≡ walk_of s

module _ (s : List ℕ) (v : Objects) (at : ℕ) (w : Walking s v at) where
  pub headers_took : 8 + 4 * v.headers ≤ at
  unfolding objects_of
  headers_took = omega (arith, ap (λ (v : Objects). v.headers) w.sees)

  -- no count reaches the place
  pub room : (v.session.times < at) × (v.error.times < at) × (v.template.times < at) × (v.identifier.times < at) × (v.status.times < at) × (v.attribute.times < at) × (v.headers < at)
  unfolding objects_of
  room = rw w.sees (below session, below error_spec, below sender_template, below message_id, below admin_status, below session_attribute, omega arith)
    where
      below : (class : ℕ) → (seen class w.read).times < at
      below class = omega (arith, seen_times class w.read)

  pub ended : item_at s at ≡ (Ok None) → Ok v ≡ walk_of s
  unfolding walk_from
  ended e = ap Ok w.sees ∙ by w.left w.rest
    where
      by : (n : ℕ) → walk_from n s at w.read ≡ walk_of s → Ok (objects_of w.read) ≡ walk_of s
      by zero k = k
      by (suc n) k = rw e at k

  pub stopped : (fault : Fault) → item_at s at ≡ Err fault → stopped_at fault at (v.headers + 1) ≡ walk_of s
  unfolding walk_from objects_of
  stopped fault e = rw w.sees (by w.left w.enough w.rest)
    where
      by : (n : ℕ) → length s ≤ at + n → walk_from n s at w.read ≡ walk_of s → stopped_at fault at (length w.read + 1) ≡ walk_of s
      by zero h k = let d = past s at (omega arith) in let z : ◌≡◌ {A = ℕ} 0 1 = cc in absurd (omega arith)
      by (suc n) h k = rw e at k

  pub onward : (o : Object) → item_at s at ≡ Ok (Some o) → Walking s (with_object o v) (at + o.len)
  unfolding walk_from
  onward o e = by w.left w.enough w.rest
    where
      by : (n : ℕ) → length s ≤ at + n → walk_from n s at w.read ≡ walk_of s → Walking s (with_object o v) (at + o.len)
      by zero h k = let d = past s at (omega arith) in let z : ◌≡◌ {A = ℕ} 0 1 = cc in absurd (omega arith)
      by (suc n) h k =
          let f = found_at s at o e in
          record {
            read = o ∷ w.read;
            left = n;
            sees = ap (with_object o) w.sees ∙ grown o w.read;
            took = omega arith;
            near = omega arith;
            enough = omega arith;
            rest = rw e at k;
          }
