use native.Mathlib.Omega.{arith}
use mathlib.Core.Path.{◌≡◌, ◌∙◌}
use mathlib.Core.Bool.{true}
use lib.ListN.{length-set}
use Rattle.table.specs.Words.{table_of}
use Rattle.make_ids.proofs.Marks.{noted_none, noted_turn, noted_all, made_most}
use Rattle.make_ids.proofs.short.made_short.Goals as goal

pub loop-i-init : goal.loop-i-init
loop-i-init c = noted_none _ _ _

pub taken_by-taken-requires : goal.taken_by-taken-requires
taken_by-taken-requires c =
    (omega (arith, c.used_below-i-end.ensures.0), c.pair_digits-p.ensures)

pub bounds-marks-short : goal.bounds-marks-short
bounds-marks-short c =
    let l = c.loop-i in
    omega (arith, l.invariant.long, c.taken_by-taken.ensures.short_inside, c.taken_by-taken.ensures.name_inside)

pub bounds-marks-name : goal.bounds-marks-name
bounds-marks-name c =
    let l = c.loop-i in
    omega (arith, length-set l.marks c.taken_by-taken.result.short true, l.invariant.long, c.taken_by-taken.ensures.short_inside, c.taken_by-taken.ensures.name_inside)

pub loop-i-preserved : goal.loop-i-preserved
loop-i-preserved c =
    let l = c.loop-i in
    noted_turn _ _ _ l.i _ _ l.marks c.is_used.ensures c.taken_by-taken.ensures l.invariant

pub returns : goal.returns
returns c =
    let n = c.used_below-i-end in
    let a = c.args in
    let e : c.loop-i.i ≡ n.result = omega arith in
    let made = c.first_unmarked.ensures.0 ∙ noted_all (table_of a.t.now) a.endpoint a.sender n.result _ n.ensures.0 n.ensures.1 (rw e at c.loop-i.invariant) in
    let most = made_most (table_of a.t.now) a.endpoint a.sender in
    (made, omega arith, omega arith)
