use native.Mathlib.Omega.{arith}
use mathlib.Core.Path.{sym}
use Rattle.lists.proofs.Search.{not_only}
use Rattle.make_ids.proofs.Marks.{marked_more}
use Rattle.make_ids.proofs.short.first_unmarked.Goals as goal

pub loop-n-init : goal.loop-n-init
loop-n-init c = λ j a b. let z : ⊥ = omega arith in absurd z

pub returns-then-not-marks-n : goal.returns-then-not-marks-n
returns-then-not-marks-n c =
    let l = c.loop-n in
    (sym (not_only _ 400 1 l.n (omega arith) (omega arith) l.invariant (λ b. c.if-not-marks-n.true)), omega arith)

pub loop-n-preserved : goal.loop-n-preserved
loop-n-preserved c = marked_more c.args.marks.now c.loop-n.n c.if-not-marks-n.false c.loop-n.invariant

pub returns : goal.returns
returns c =
    let l = c.loop-n in
    (sym (not_only _ 400 1 401 (omega arith) (omega arith) (λ j a b. l.invariant j a (omega arith)) (λ b. let z : ⊥ = omega arith in absurd z)), omega arith)
