-- `short::mark_of` meets its contract.
use native.Mathlib.Omega.{arith}
use mathlib.Core.Path.{refl, sym, ◌∙◌}
use borrow.Author.Tests.{ne_eqb}
use Rattle.make_ids.proofs.short.mark_of.Goals as goal

pub returns-in_default : goal.returns-in_default
returns-in_default c = rw c.in_default.is (record { same = λ n a b. ne_eqb n 0 (λ e. omega arith); inside = omega arith })

pub returns-then-mark-lt-MARKS : goal.returns-then-mark-lt-MARKS
returns-then-mark-lt-MARKS c = rw c.in-Some.is (record { same = λ n a b. refl; inside = omega arith })

pub returns-else-mark-lt-MARKS : goal.returns-else-mark-lt-MARKS
returns-else-mark-lt-MARKS c =
    let left = c.if-mark-lt-MARKS.false in
    let x = c.in-Some.number in
    rw c.in-Some.is (record { same = λ n a b. ne_eqb n 0 (λ e. omega arith) ∙ sym (ne_eqb n x (λ e. omega arith)); inside = omega arith })
