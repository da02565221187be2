-- An object like one that is passed over is found too, and changes the number of headers and nothing else: a run of them
-- is gone over at one step.
-- Assumes nothing.
use Prim.Native.Nat.{ℕ, zero, suc, ◌+◌, ◌-◌, ◌*◌, ◌%◌, ◌≤◌}
use native.Mathlib.Nat.{add-zero, add-suc, zero-mul, suc-mul}
use native.Mathlib.Omega.{arith}
use native.Mathlib.Numerals.{add-one}
use mathlib.Core.Path.{◌≡◌, refl, sym, ap, ◌∙◌}
use mathlib.Core.List.{List}
use mathlib.Core.Bool.{true, false, not, ◌&&◌, and-false, true≢false}
use lib.ListN.{length, get_or}
use lib.Dec.{leb, eqb}
use borrow.Author.Tests.{leb-true, eqb-true, eq-eqb, ne_eqb, lt-leb, le-ltb, not-true}
use Rattle.numbers.specs.BigEndian.{be16_at}
use Rattle.numbers.specs.Search.{is_in}
use Rattle.lists.specs.Below.{every_below}
use Rattle.lists.proofs.Tests.{both}
use Rattle.objects.specs.declared.object.Object.{Object}
use Rattle.std.specs.Prelude.{Some, Ok}
use Rattle.objects.specs.declared.walk.Objects.{Objects}
use Rattle.objects.specs.Classes.{session, error_spec, sender_template, message_id, admin_status, session_attribute, read_classes, passed_over, refused_class}
use Rattle.objects.specs.Forms.{misformed}
use Rattle.objects.specs.Item.{object_at, bad_length, item_at}
use Rattle.objects.specs.Run.{is_like, all_like}
use Rattle.objects.specs.Walk.{with_object}
use Rattle.objects.proofs.Steps.{Walking, onward}

-- what the test says of an object that it passes
pub record LikeAt (s : List ℕ) (at : ℕ) (o : Object) : Type 0 where
  pub fits : at + o.len ≤ length s
  pub long : be16_at s at ≡ o.len
  pub class : get_or s (at + 2) 0 ≡ o.class

pub like_at : (s : List ℕ) (at : ℕ) (o : Object) → is_like s at o ≡ true → LikeAt s at o
unfolding is_like
like_at s at o e =
    let w = both (leb (at + o.len) (length s) && eqb (be16_at s at) o.len) (eqb (get_or s (at + 2) 0) o.class) e in
    let v = both (leb (at + o.len) (length s)) (eqb (be16_at s at) o.len) w.0 in
    record { fits = leb-true _ _ v.0; long = eqb-true _ _ v.1; class = eqb-true _ _ w.1 }

-- an object whose length is right and whose class is passed over is found, whatever else it holds
over_found : (s : List ℕ) (at : ℕ) → 4 ≤ be16_at s at → be16_at s at % 4 ≡ 0 → at + be16_at s at ≤ length s → passed_over (get_or s (at + 2) 0) ≡ true
    → item_at s at ≡ Ok (Some (object_at s at))
unfolding item_at bad_length refused_class misformed
over_found s at header fours fits over =
    rw (
      lt-leb (length s) at (omega arith),
      le-ltb (length s - at) 4 (omega arith),
      le-ltb (be16_at s at) 4 header,
      eq-eqb (be16_at s at % 4) 0 fours,
      le-ltb (length s - at) (be16_at s at) (omega arith),
      over,
      and-false (not (is_in (get_or s (at + 2) 0) read_classes)),
    )

-- what the walk has seen, with so many headers more
abbrev with_headers : ℕ → Objects → Objects
with_headers n v = record {
  session = v.session;
  error = v.error;
  template = v.template;
  identifier = v.identifier;
  status = v.status;
  attribute = v.attribute;
  headers = v.headers + n;
}

-- an object that is passed over is one header more, and nothing else: its class is none that is read
one_header : (o : Object) (v : Objects) → passed_over o.class ≡ true → with_object o v ≡ with_headers 1 v
unfolding is_in passed_over
one_header o v over =
    rw (
      other session refl,
      other error_spec refl,
      other sender_template refl,
      other message_id refl,
      other admin_status refl,
      other session_attribute refl,
    )
  where
    other : (class : ℕ) → is_in class read_classes ≡ true → eqb o.class class ≡ false
    other class e =
        let w = not-true _ (both (not (is_in o.class read_classes)) _ over).0 in
        ne_eqb o.class class (λ k. true≢false (sym e ∙ ap (λ c. is_in c read_classes) (sym k) ∙ w))

-- a run behind an object that is passed over: the walk comes to its end with so many headers more
module _ (s : List ℕ) (o : Object) (header : 4 ≤ o.len) (fours : o.len % 4 ≡ 0) (over : passed_over o.class ≡ true) where
  like_found : (at : ℕ) → is_like s at o ≡ true → item_at s at ≡ Ok (Some (object_at s at))
  like_found at e =
      let l = like_at s at o e in
      over_found s at (rw l.long header) (rw l.long fours) (rw l.long l.fits) (rw l.class over)

  one_more : (v : Objects) (from n : ℕ) → is_like s (from + n * o.len) o ≡ true → Walking s (with_headers n v) (from + n * o.len)
      → Walking s (with_headers (suc n) v) (from + suc n * o.len)
  one_more v from n e w =
      let at = from + n * o.len in
      let l = like_at s at o e in
      let q : at + be16_at s at ≡ from + suc n * o.len = omega (arith, suc-mul n o.len) in
      let c : with_object (object_at s at) (with_headers n v) ≡ with_headers (suc n) v = one_header (object_at s at) (with_headers n v) (rw l.class over) ∙ rw (add-one, add-suc) in
      rw (← q, ← c) (onward s (with_headers n v) at w (object_at s at) (like_found at e))

  pub gone_over : (v : Objects) (from n : ℕ) → all_like s from o n ≡ true → Walking s v from → Walking s (with_headers n v) (from + n * o.len)
  unfolding every_below
  gone_over v from zero e w = simp (zero-mul, add-zero) w
  gone_over v from (suc n) e w =
      let k = both (all_like s from o n) (is_like s (from + n * o.len) o) e in
      one_more v from n k.1 (gone_over v from n k.0 w)
