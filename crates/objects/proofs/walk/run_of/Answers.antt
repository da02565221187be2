use native.Mathlib.Nat.{add-mul}
use native.Mathlib.Omega.{arith}
use mathlib.Core.Bool.{true}
use mathlib.Core.Path.{sym, ◌∙◌}
use Rattle.lists.proofs.Below.{every_none, every_turn}
use Rattle.objects.proofs.Run.{like_at}
use Rattle.objects.proofs.walk.run_of.Goals as goal

pub loop-o-init : goal.loop-o-init
loop-o-init c = (omega arith, omega arith, omega arith, every_none _)

pub loop-o-smaller : goal.loop-o-smaller
loop-o-smaller c = omega (arith, (like_at _ _ _ (sym c.is_like.ensures ∙ c.loop-o-test.true)).fits)

pub loop-o-preserved : goal.loop-o-preserved
loop-o-preserved c =
    let i = c.loop-o.invariant in
    let more = c.loop-o.more in
    let e = sym c.is_like.ensures ∙ c.loop-o-test.true in
    let f = like_at _ _ _ e in
    let m = add-mul more 1 c.args.o.len in
    (omega arith, omega arith, omega arith, sym (every_turn _ more true true (sym i.3) (sym (rw i.0 at e))))

pub returns : goal.returns
returns c =
    let i = c.loop-o.invariant in
    (i.3, omega arith)
