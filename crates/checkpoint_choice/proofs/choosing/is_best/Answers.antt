use Prim.Native.Nat.{◌-◌}
use native.Mathlib.Omega.{arith}
use mathlib.Core.Path.{sym, ap, ◌∙◌}
use Rattle.table.specs.Lists.{ids_of}
use Rattle.checkpoint_choice.specs.LongChain.{long_chain}
use Rattle.checkpoint_choice.proofs.LongWalk.{walk_starts, walk_goes_back, walk_goes_on, none_better, one_better, not_sound}
use Rattle.checkpoint_choice.proofs.choosing.is_best.Goals as goal

pub returns-then-sound-i-ne1 : goal.returns-then-sound-i-ne1
returns-then-sound-i-ne1 c =
    let a = c.args in
    not_sound a.c.bytes.now a.sound.now a.named.now a.c.calls a.i c.if-sound-i-ne1.true

pub loop-e-init : goal.loop-e-init
loop-e-init c =
    let m = c.long_chain.ensures in
    (c.if-sound-i-ne1.false, (c.args.f, c.requires.1, rw c.from-e.ensures (walk_starts c.requires.1 _ (m.0 ∙ ap (λ r. long_chain c.args.f (ids_of r.call)) c.call.ensures) m.1)))

pub returns-then-is_better : goal.returns-then-is_better
returns-then-is_better c =
    let a = c.args in
    one_better a.c.bytes.now a.sound.now a.named.now a.c.calls a.i (a.c.calls - c.loop-e.e) (omega arith) (sym c.is_better.ensures ∙ c.if-is_better.true)

pub loop-e-smaller : goal.loop-e-smaller
loop-e-smaller c =
    let w = c.loop-e.invariant.1 in
    rw c.from-e-in-loop-e.ensures (walk_goes_back w.1 w.2 (omega arith))

pub loop-e-preserved : goal.loop-e-preserved
loop-e-preserved c =
    let w = c.loop-e.invariant.1 in
    let worse = sym c.is_better.ensures ∙ c.if-is_better.false in
    (c.loop-e.invariant.0, (w.0, w.1, rw c.from-e-in-loop-e.ensures (walk_goes_on w.1 w.2 (omega arith) worse)))

pub returns : goal.returns
returns c =
    let a = c.args in
    none_better a.c.bytes.now a.sound.now a.named.now a.c.calls a.i c.loop-e.invariant.0 (rw c.loop-e-test.false at c.loop-e.invariant.1.2)
