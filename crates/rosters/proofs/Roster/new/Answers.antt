-- `Roster::new` meets its contract: at each return the tests passed say which answer it is.
use mathlib.Core.Path.{refl}
use borrow.Author.Tests.{eq-eqb, ne_eqb, lt-ltb, le-ltb}
use Rattle.table.specs.Roster.{bad_form, roster_answer}
use Rattle.rosters.proofs.Roster.new.Goals as goal

pub returns-then-s-lt8 : goal.returns-then-s-lt8
unfolding roster_answer
returns-then-s-lt8 c = rw (lt-ltb _ _ c.if-s-lt8.true)

pub returns-then-form-count : goal.returns-then-form-count
unfolding roster_answer bad_form
returns-then-form-count c = rw (le-ltb _ _ c.if-s-lt8.false, c.if-form-count.true)

pub returns-then-s-from : goal.returns-then-s-from
unfolding roster_answer bad_form
returns-then-s-from c =
    rw (le-ltb _ _ c.if-s-lt8.false, c.if-form-count.false, ne_eqb _ _ (rw c.from.ensures at c.if-s-from.true))

pub returns : goal.returns
unfolding roster_answer bad_form
returns c =
    (refl, rw (le-ltb _ _ c.if-s-lt8.false, c.if-form-count.false, eq-eqb _ _ (rw c.from.ensures at c.if-s-from.false)))
