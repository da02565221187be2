use Prim.Native.Nat.{◌+◌}
use native.Mathlib.Omega.{arith}
use borrow.Author.Tests.{eq-eqb, ne_eqb}
use Rattle.objects.specs.Forms.{has_form, attribute_formed, rounded_up_to4, name_length}
use Rattle.objects.proofs.object.attribute_formed.Goals as goal

-- `object::attribute_formed` meets its contract. An object under 8 bytes has no name length, and its own length fails
-- the row's test.

pub returns-then-o-ne7 : goal.returns-then-o-ne7
unfolding attribute_formed has_form
returns-then-o-ne7 c = simp (ne_eqb _ _ c.if-o-ne7.true)

pub returns-then-o-lt8 : goal.returns-then-o-lt8
unfolding attribute_formed has_form
returns-then-o-lt8 c =
    let a = c.args in
    simp (eq-eqb _ _ c.if-o-ne7.false, ne_eqb a.o.len (8 + rounded_up_to4 (name_length a.s.now a.o.at)) (omega arith))

pub returns-then-o-name : goal.returns-then-o-name
unfolding attribute_formed has_form
returns-then-o-name c =
    let other = rw c.from-name.ensures at c.if-o-name.true in
    simp (eq-eqb _ _ c.if-o-ne7.false, ne_eqb _ _ other)

pub returns : goal.returns
unfolding attribute_formed has_form
returns c =
    let same = rw c.from-name.ensures at c.if-o-name.false in
    simp (c.zeros.ensures, c.from-name.ensures, eq-eqb _ _ c.if-o-ne7.false, eq-eqb _ _ same)
