use native.Mathlib.Omega.{arith}
use mathlib.Core.Path.{◌≡◌, sym, ap, ◌∙◌}
use mathlib.Core.Bool.{cond, ◌&&◌}
use Rattle.table.specs.Total.{total_for, total_of}
use Rattle.table.specs.Words.{table_of}
use Rattle.spec_checkpoint.specs.Layout.{Slotted}
use Rattle.spec_checkpoint.specs.Salvage.{placed, call_fits}
use Rattle.checkpoint_choice.proofs.Best.{best_kept, best_inside}
use Rattle.checkpoint_read.proofs.Turns.{calls_turn, calls_none, calls_rules, calls_form}
use Rattle.checkpoint_read.proofs.filling.with_calls.Goals as goal

pub loop-i-init : goal.loop-i-init
loop-i-init c = calls_none _ _

pub with_call-requires : goal.with_call-requires
with_call-requires c =
    let a = c.args in
    let s = a.c.bytes.now in
    let inside = c.loop-i-test.true in
    let fresh = table_of a.t.now in (
      rw c.loop-i.invariant (calls_rules fresh s c.requires.0 c.loop-i.i),
      λ h. omega (arith, ap (λ (r : Slotted). r.slot) c.call.ensures, ap total_of c.loop-i.invariant, ap total_for (calls_form fresh s c.loop-i.i), best_inside fresh s _ _ a.c.calls a.c.calls_is c.sound_flags.ensures c.named_counts.ensures c.loop-i.i inside (sym c.is_best-best.ensures ∙ h)),
    )

pub loop-i-preserved : goal.loop-i-preserved
loop-i-preserved c =
    let a = c.args in
    let s = a.c.bytes.now in
    let i = c.loop-i.i in
    let fresh = table_of a.t.now in
    let t = table_of c.loop-i.t in
    let kept = c.is_best-best.ensures ∙ best_kept fresh s _ _ a.c.calls a.c.calls_is c.sound_flags.ensures c.named_counts.ensures i c.loop-i-test.true in
    calls_turn fresh s i t _ _ c.loop-i.invariant kept
    (c.with_call.ensures ∙ ap (λ (r : Slotted). cond (c.is_best-best.result && call_fits t r) (placed t r) t) c.call.ensures)

pub returns : goal.returns
returns c =
    let e : c.loop-i.i ≡ c.args.c.calls = omega arith in
    rw e at c.loop-i.invariant
