-- `sized` meets its contract: each test is one of those of a size.
use native.Mathlib.Omega.{arith}
use mathlib.Core.Path.{refl}
use Rattle.checkpoint_read.proofs.Answered.{size_short, size_wrong, size_right}
use Rattle.checkpoint_read.proofs.sized.Goals as goal

pub returns-then-s-lt4 : goal.returns-then-s-lt4
returns-then-s-lt4 c = size_short c.args.s.now (omega arith)

pub returns-then-s-calls : goal.returns-then-s-calls
returns-then-s-calls c =
    size_wrong c.args.s.now c.from-calls.result c.from-connections.result (omega (arith, c.from-calls.ensures, c.get16.ensures)) (omega (arith, c.from-connections.ensures, c.get16-2.ensures)) (omega arith) (λ e. omega arith)

pub returns : goal.returns
returns c =
    (refl, size_right c.args.s.now c.from-calls.result c.from-connections.result (record { calls = omega (arith, c.from-calls.ensures, c.get16.ensures); connections = omega (arith, c.from-connections.ensures, c.get16-2.ensures); size = c.if-s-calls.false }))
