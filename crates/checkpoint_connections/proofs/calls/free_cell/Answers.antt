use native.Mathlib.Omega.{arith}
use mathlib.Core.Path.{refl}
use Rattle.checkpoint_connections.proofs.Cells.{passed_start, passed_on, passed_most, passed_free}
use Rattle.checkpoint_connections.proofs.calls.free_cell.Goals as goal

pub loop-j-init : goal.loop-j-init
loop-j-init c = passed_start _ _ _

pub returns-then-cells-j-eq0 : goal.returns-then-cells-j-eq0
returns-then-cells-j-eq0 c =
    (passed_free _ _ _ _ c.loop-j.invariant c.if-cells-j-eq0.true, omega arith)

pub loop-j-preserved : goal.loop-j-preserved
loop-j-preserved c = passed_on _ _ _ _ c.loop-j.invariant c.if-cells-j-eq0.false refl

pub unreachable-requires : goal.unreachable-requires
unreachable-requires c = omega (arith, c.requires, passed_most _ _ _ _ c.loop-j.invariant)
