use Prim.Native.Nat.{◌/◌}
use native.Mathlib.Omega.{arith}
use mathlib.Core.Path.{sym, ap, ◌∙◌}
use Rattle.checkpoint_choice.specs.LongChain.{long_chain}
use Rattle.checkpoint_choice.proofs.Mixed.{mixed_turn, mixed_ends}
use Rattle.checkpoint_choice.proofs.choosing.long_chain.Goals as goal

pub loop-b-preserved : goal.loop-b-preserved
loop-b-preserved c =
    let turn = mixed_turn c.args.f c.name-name.result.now c.loop-b.b-index c.loop-b.sum c.loop-b-test.true in
    rw (c.mixed-sum.ensures, c.from.ensures) (sym turn ∙ c.loop-b.invariant)

pub returns : goal.returns
unfolding long_chain
returns c =
    let whole = sym (mixed_ends c.args.f c.name-name.result.now c.loop-b.b-index c.loop-b.sum (omega arith)) ∙ c.loop-b.invariant in
    (ap (λ n. n / 2) (c.spread.ensures.0 ∙ rw (c.endpoint.ensures, c.sender.ensures, whole, c.name-name.ensures)), omega (arith, c.spread.ensures.1))
