-- A stopped walk names the first faulty object: by the way that it came.
-- Assumes nothing.
use Prim.Native.Nat.{ℕ, zero, suc, ◌+◌, ◌≤◌, ◌<◌}
use native.Mathlib.Omega.{arith}
use mathlib.Core.Path.{◌≡◌, refl, sym, ap, ◌∙◌, subst}
use mathlib.Core.List.{List, [], ◌∷◌}
use mathlib.Core.Bool.{Bool, true, false, cond, true≢false}
use lib.Dec.{leb}
use lib.ListN.{length, get_or}
use borrow.Author.Tests.{leb-false}
use Rattle.numbers.specs.Search.{is_in}
use Rattle.objects.specs.declared.fault.Fault.{Fault}
use Rattle.objects.specs.declared.object.Object.{Object}
use Rattle.objects.specs.Item.{Item}
use Rattle.std.specs.Prelude.{Some, None, Ok, Err}
use Rattle.objects.specs.Walk.{Walked}
use Rattle.objects.specs.Walk.{stopped_at}
use Rattle.objects.specs.declared.fault.Fault.TheVariants.{ObjectLength, ObjectClass, ObjectForm}
use Rattle.objects.specs.Faults.{fault_number, is_of_object}
use Rattle.objects.specs.Classes.{refused_class}
use Rattle.objects.specs.Forms.{misformed}
use Rattle.objects.specs.Item.{object_at, bad_length, item_at}
use Rattle.objects.specs.Walk.{on_item, walk_from, walk_of}
use Rattle.objects.specs.FirstFault.{Way, StoppedAtFirst}

abbrev stops : Walked → Bool
stops (Ok v) = false
stops (Err stop) = true

abbrev stop_of : Walked → Item
stop_of (Ok v) = (Ok None)
stop_of (Err stop) = Err stop.fault

abbrev place_of : Walked → ℕ
place_of (Ok v) = 0
place_of (Err stop) = stop.offset

abbrev headers_of : Walked → ℕ
headers_of (Ok v) = 0
headers_of (Err stop) = stop.headers

-- what stands where the walk from a place stops, and the way to it
record StopsAt (s : List ℕ) (at read : ℕ) (fault : Fault) (place headers : ℕ) : Type 0 where
  pub faulty : item_at s place ≡ Err fault
  pub way : List Object
  pub good : Way s at way place
  pub counted : headers ≡ read + length way + 1

walk_stops : (n : ℕ) (s : List ℕ) (at : ℕ) (read : List Object) (fault : Fault) (place headers : ℕ) → walk_from n s at read ≡ stopped_at fault place headers
    → StopsAt s at (length read) fault place headers
unfolding walk_from
walk_stops zero s at read fault place headers e = absurd (true≢false (sym (ap stops e)))
walk_stops (suc n) s at read fault place headers e = by (item_at s at) refl (λ o d. walk_stops n s (at + o.len) (o ∷ read) fault place headers d) e
  where
    by : (i : Item) → item_at s at ≡ i
        → ((o : Object) → walk_from n s (at + o.len) (o ∷ read) ≡ stopped_at fault place headers → StopsAt s (at + o.len) (length (o ∷ read)) fault place headers)
        → on_item i at read (walk_from n s) ≡ stopped_at fault place headers → StopsAt s at (length read) fault place headers
    by (Ok None) d further e = absurd (true≢false (sym (ap stops e)))
    by (Err f) d further e =
        let here : at ≡ place = ap place_of e in
        record { faulty = subst (λ (p : ℕ). item_at s p ≡ Err f) here d ∙ ap stop_of e; way = []; good = here; counted = sym (ap headers_of e) ∙ omega arith }
    by (Ok (Some o)) d further e =
        let r = further o e in
        record { faulty = r.faulty; way = o ∷ r.way; good = (d, r.good); counted = r.counted ∙ omega arith }

-- a way leads on
way_rises : (s : List ℕ) (at : ℕ) (way : List Object) (end : ℕ) → Way s at way end → at ≤ end
way_rises s at [] end h = omega (arith, h)
way_rises s at (o ∷ rest) end h = omega (arith, way_rises s (at + o.len) rest end h.1)

abbrev is_faulty : Item → Bool
is_faulty (Ok None) = false
is_faulty (Err fault) = true
is_faulty (Ok (Some o)) = false

-- at the end there is no object, and so no faulty one
fault_inside : (s : List ℕ) (at : ℕ) (fault : Fault) → item_at s at ≡ Err fault → at < length s
unfolding item_at
fault_inside s at fault e = leb-false (length s) at (by (leb (length s) at) _ e)
  where
    by : (b : Bool) (rest : Item) → cond b (Ok None) rest ≡ Err fault → b ≡ false
    by true rest e = absurd (true≢false (sym (ap is_faulty e)))
    by false rest e = refl

-- the number of what is wrong with an object, 0 where nothing is
abbrev item_number : Item → ℕ
item_number (Ok None) = 0
item_number (Err fault) = fault_number fault
item_number (Ok (Some o)) = 0

-- 7, 8 and 9 are what can be wrong with one
fault_numbered : (s : List ℕ) (at : ℕ) (fault : Fault) → item_at s at ≡ Err fault → is_of_object (fault_number fault) ≡ true
unfolding item_at is_in
fault_numbered s at fault e =
    ap is_of_object (sym (ap item_number e)) ∙ by (leb (length s) at) (bad_length s at) (refused_class (get_or s (at + 2) 0)) (misformed s (object_at s at)) (ap is_faulty e)
  where
    by : (a b c d : Bool) → is_faulty (cond a (Ok None) (cond b (Err ObjectLength) (cond c (Err ObjectClass) (cond d (Err ObjectForm) (Ok (Some (object_at s at))))))) ≡ true
        → is_of_object (item_number (cond a (Ok None) (cond b (Err ObjectLength) (cond c (Err ObjectClass) (cond d (Err ObjectForm) (Ok (Some (object_at s at)))))))) ≡ true
    by true b c d h = absurd (true≢false (sym h))
    by false true c d h = refl
    by false false true d h = refl
    by false false false true h = refl
    by false false false false h = absurd (true≢false (sym h))

pub stopped_at_first : StoppedAtFirst
unfolding walk_of
stopped_at_first s fault at headers e =
    let r = walk_stops (length s) s 8 [] fault at headers e in
    record {
      behind_header = way_rises s 8 r.way at r.good;
      inside = fault_inside s at fault r.faulty;
      faulty = r.faulty;
      numbered = fault_numbered s at fault r.faulty;
      before = r.way;
      good = r.good;
      counted = r.counted ∙ omega arith;
    }
