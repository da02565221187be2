use native.Mathlib.Omega.{arith}
use mathlib.Core.Path.{◌≡◌, refl, sym, ap, ◌∙◌}
use Rattle.lists.proofs.Below.{has_none, has_turn}
use Rattle.table.specs.Rules.{same_short}
use Rattle.table.specs.Words.{table_of}
use Rattle.table.proofs.Slots.{open_rest}
use Rattle.spec_calls.specs.CallRules.{short_in_use}
use Rattle.checkpoint_salvage.proofs.placing.short_in_use.Invariants.{asked}
use Rattle.checkpoint_salvage.proofs.placing.short_in_use.Goals as goal

pub loop-i-init : goal.loop-i-init
loop-i-init c = λ long. sym (has_none _ _)

pub loop-i-preserved : goal.loop-i-preserved
unfolding same_short
loop-i-preserved c =
    λ long. has_turn _ _ _ _ _ _ _ refl (c.loop-i.invariant long) (rw (c.is_used.ensures, c.is_call.ensures, c.call_head-c.ensures))

pub returns : goal.returns
returns c long =
    let a = c.args in
    let e : c.loop-i.i ≡ c.used_below-n.result = omega arith in
    let rest = open_rest (table_of a.t.now) _ c.used_below-n.ensures.0 c.used_below-n.ensures.1 in
    rw e at (c.loop-i.invariant long) ∙ ap (λ l. short_in_use l (asked a.endpoint a.sender a.id.0 long)) (sym rest)
