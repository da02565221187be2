use native.Mathlib.Nat.{le-mul_of_pos_right}
use native.Mathlib.Omega.{arith}
use mathlib.Core.List.{[]}
use mathlib.Core.Path.{refl, sym, ap, ◌∙◌}
use lib.ListN.{length}
use Rattle.std.specs.Prelude.{Ok}
use Rattle.objects.specs.Walk.{walk_of}
use Rattle.objects.specs.declared.walk.Objects.{Objects}
use Rattle.objects.proofs.Steps.{found_at, headers_took, room, ended, stopped, onward}
use Rattle.objects.proofs.Run.{gone_over}
use Rattle.objects.proofs.walk.walk.Goals as goal

pub loop-o-init : goal.loop-o-init
unfolding walk_of
loop-o-init c = record {
  read = [];
  left = length c.args.s.now;
  sees = c.nothing_seen-seen.ensures;
  took = omega arith;
  near = omega arith;
  enough = omega arith;
  rest = refl;
}

pub returns-in-Ok-None : goal.returns-in-Ok-None
returns-in-Ok-None c = ended _ _ _ c.loop-o.invariant (sym c.item_at.ensures ∙ c.in-Ok-None.is ∙ ap Ok c.in-Ok-None.field-0-is)

pub overflow_add-result : goal.overflow_add-result
overflow_add-result c =
    let i = c.loop-o.invariant in
    let g = c.well_formed in
    omega (arith, headers_took _ _ _ i, i.near)

pub returns-in-Err : goal.returns-in-Err
returns-in-Err c = stopped _ _ _ c.loop-o.invariant _ (sym c.item_at.ensures ∙ c.in-Err.is)

pub with_object-seen-requires : goal.with_object-seen-requires
with_object-seen-requires c =
    let e = sym c.item_at.ensures ∙ c.in-Ok-Some.is ∙ ap Ok c.in-Ok-Some.field-0-is in
    rw (← (found_at _ _ _ e).is) (room _ _ _ c.loop-o.invariant)

pub overflow_add-at : goal.overflow_add-at
overflow_add-at c =
    let e = sym c.item_at.ensures ∙ c.in-Ok-Some.is ∙ ap Ok c.in-Ok-Some.field-0-is in
    omega (arith, (found_at _ _ _ e).fits)

pub run_of-more-requires : goal.run_of-more-requires
run_of-more-requires c =
    let e = sym c.item_at.ensures ∙ c.in-Ok-Some.is ∙ ap Ok c.in-Ok-Some.field-0-is in
    let f = found_at _ _ _ e in
    (f.header, omega (arith, f.fits), f.fits)

pub overflow_add-seen : goal.overflow_add-seen
overflow_add-seen c =
    let e = sym c.item_at.ensures ∙ c.in-Ok-Some.is ∙ ap Ok c.in-Ok-Some.field-0-is in
    let f = found_at _ _ _ e in
    let w = onward _ _ _ c.loop-o.invariant _ e in
    let h = ap (λ (v : Objects). v.headers) c.with_object-seen.ensures in
    let m = le-mul_of_pos_right {m = c.in-Ok-Some.o.len} c.run_of-more.result (omega (arith, f.header)) in
    let g = c.well_formed in
    omega (arith, headers_took _ _ _ w, c.run_of-more.ensures.1)

pub overflow_mul-at : goal.overflow_mul-at
overflow_mul-at c =
    let g = c.well_formed in
    omega (arith, c.run_of-more.ensures.1)

pub overflow_add-at-then-passed_over : goal.overflow_add-at-then-passed_over
overflow_add-at-then-passed_over c =
    let g = c.well_formed in
    omega (arith, c.run_of-more.ensures.1)

pub loop-o-smaller-then-passed_over : goal.loop-o-smaller-then-passed_over
loop-o-smaller-then-passed_over c =
    let e = sym c.item_at.ensures ∙ c.in-Ok-Some.is ∙ ap Ok c.in-Ok-Some.field-0-is in
    omega (arith, found_at _ _ _ e, c.run_of-more.ensures.1)

pub loop-o-preserved-then-passed_over : goal.loop-o-preserved-then-passed_over
loop-o-preserved-then-passed_over c =
    let e = sym c.item_at.ensures ∙ c.in-Ok-Some.is ∙ ap Ok c.in-Ok-Some.field-0-is in
    let f = found_at _ _ _ e in
    let over = sym c.passed_over.ensures ∙ c.if-passed_over.true in
    let w = onward _ _ _ c.loop-o.invariant _ e in
    gone_over _ _ f.header f.fours over c.with_object-seen.result _ _ c.run_of-more.ensures.0 (rw c.with_object-seen.ensures w)

pub loop-o-smaller : goal.loop-o-smaller
loop-o-smaller c =
    let e = sym c.item_at.ensures ∙ c.in-Ok-Some.is ∙ ap Ok c.in-Ok-Some.field-0-is in
    omega (arith, found_at _ _ _ e)

pub loop-o-preserved : goal.loop-o-preserved
loop-o-preserved c =
    let e = sym c.item_at.ensures ∙ c.in-Ok-Some.is ∙ ap Ok c.in-Ok-Some.field-0-is in
    rw c.with_object-seen.ensures (onward _ _ _ c.loop-o.invariant _ e)
