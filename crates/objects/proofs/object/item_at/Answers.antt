-- `object::item_at` meets its contract: at each return the tests passed say which case of `item_at` it is.
use Prim.Native.Nat.{ℕ, ◌<◌}
use native.Mathlib.Omega.{arith}
use mathlib.Core.List.{List}
use mathlib.Core.Bool.{Bool, true, false, cond, not, ◌&&◌, ◌||◌, and_comm}
use mathlib.Core.Path.{◌≡◌, refl, sym, ◌∙◌}
use lib.ListN.{length}
use lib.Dec.{eqb}
use borrow.Author.Tests.{le-leb, lt-leb}
use Rattle.objects.specs.Item.{object_at, bad_length, item_at}
use Rattle.objects.specs.Forms.{formed, misformed}
use Rattle.objects.specs.Classes.{session, error_spec, sender_template, message_id, admin_status, session_attribute, read_classes, passed_over, refused_class}
use Rattle.numbers.specs.Search.{is_in}
use Rattle.std.specs.Prelude.{Some, Ok, Err}
use Rattle.objects.specs.declared.object.Object.{Object}
use Rattle.objects.specs.declared.fault.Fault.TheVariants.{ObjectClass, ObjectForm}
use Rattle.objects.proofs.Steps.{good_length}
use Rattle.objects.proofs.object.item_at.Goals as goal

-- an object in a form of the table is of a class that is read
formed_read : (s : List ℕ) (o : Object) → formed s o ≡ true → is_in o.class read_classes ≡ true
unfolding formed is_in
formed_read s o e =
    by (eqb o.class session) (eqb o.class error_spec) (eqb o.class sender_template) (eqb o.class message_id) (eqb o.class admin_status)
    (eqb o.class session_attribute) _ _ _ _ _ _ e
  where
    by : (a b d f g h : Bool) (p q r t u v : Bool) → cond a p (cond b q (cond d r (cond f t (cond g u (cond h v false))))) ≡ true
        → (a || (b || (d || (f || (g || (h || false)))))) ≡ true
    by true b d f g h p q r t u v e = refl
    by false true d f g h p q r t u v e = refl
    by false false true f g h p q r t u v e = refl
    by false false false true g h p q r t u v e = refl
    by false false false false true h p q r t u v e = refl
    by false false false false false true p q r t u v e = refl
    by false false false false false false p q r t u v e = e

-- what stands at a place with a good length, by the three tests that are left
judged : (s : List ℕ) (at : ℕ) (o : Object) (p f r : Bool) → at < length s → bad_length s at ≡ false → o ≡ object_at s at
    → passed_over o.class ≡ p → formed s o ≡ f → is_in o.class read_classes ≡ r
    → item_at s at ≡ cond (not p && not r) (Err ObjectClass) (cond (not p && not f) (Err ObjectForm) (Ok (Some o)))
unfolding item_at refused_class misformed
judged s at o p f r h g e x y z =
    let x' : passed_over (object_at s at).class ≡ p = rw e at x in
    let y' : formed s (object_at s at) ≡ f = rw e at y in
    let z' : is_in (object_at s at).class read_classes ≡ r = rw e at z in
    rw (e, lt-leb _ _ h, g, x', y', z', and_comm (not r) (not p))

pub returns-then-s-at : goal.returns-then-s-at
unfolding item_at
returns-then-s-at c = rw (le-leb _ _ c.if-s-at.true)

pub returns-then-bad_length : goal.returns-then-bad_length
unfolding item_at
returns-then-bad_length c = rw (lt-leb _ _ c.if-s-at.false, sym c.bad_length.ensures ∙ c.if-bad_length.true)

pub object_at-o-requires : goal.object_at-o-requires
object_at-o-requires c = omega (arith, good_length _ _ (sym c.bad_length.ensures ∙ c.if-bad_length.false))

pub returns-then-passed_over : goal.returns-then-passed_over
returns-then-passed_over c =
    sym (judged _ _ _ true _ _ c.if-s-at.false
    (sym c.bad_length.ensures ∙ c.if-bad_length.false) c.object_at-o.ensures
    (sym c.passed_over.ensures ∙ c.if-passed_over.true) refl refl)

pub is_formed-requires : goal.is_formed-requires
is_formed-requires c =
    rw c.object_at-o.ensures
    (good_length _ _ (sym c.bad_length.ensures ∙ c.if-bad_length.false)).1

pub returns-then-is_formed : goal.returns-then-is_formed
returns-then-is_formed c =
    let f = sym c.is_formed.ensures ∙ c.if-is_formed.true in
    sym (judged _ _ _ false true true c.if-s-at.false
    (sym c.bad_length.ensures ∙ c.if-bad_length.false) c.object_at-o.ensures
    (sym c.passed_over.ensures ∙ c.if-passed_over.false) f (formed_read _ _ f))

pub returns-then-not-is_read : goal.returns-then-not-is_read
returns-then-not-is_read c =
    sym (judged _ _ _ false false false c.if-s-at.false
    (sym c.bad_length.ensures ∙ c.if-bad_length.false) c.object_at-o.ensures
    (sym c.passed_over.ensures ∙ c.if-passed_over.false)
    (sym c.is_formed.ensures ∙ c.if-is_formed.false) (sym c.is_read.ensures ∙ c.if-not-is_read.true))

pub returns : goal.returns
returns c =
    sym (judged _ _ _ false false true c.if-s-at.false
    (sym c.bad_length.ensures ∙ c.if-bad_length.false) c.object_at-o.ensures
    (sym c.passed_over.ensures ∙ c.if-passed_over.false)
    (sym c.is_formed.ensures ∙ c.if-is_formed.false) (sym c.is_read.ensures ∙ c.if-not-is_read.false))
