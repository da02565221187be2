use native.Mathlib.Omega.{arith}
use mathlib.Core.Path.{sym, ◌∙◌}
use Rattle.table.specs.Words.{table_of}
use Rattle.spec_calls.specs.PathRules.{held_by}
use Rattle.checkpoint_connections.proofs.Cells.{passed_start, passed_on, passed_most}
use Rattle.checkpoint_connections.proofs.InCells.{call_there, call_nowhere}
use Rattle.checkpoint_connections.proofs.calls.find_call.Goals as goal

pub returns-then-is_call_of : goal.returns-then-is_call_of
returns-then-is_call_of c =
    let a = c.args in
    call_there (table_of a.t.now) (held_by a.x) _ (sym c.is_call_of.ensures ∙ c.if-is_call_of.true)

pub loop-j-init : goal.loop-j-init
loop-j-init c = passed_start _ _ _

pub loop-j-preserved : goal.loop-j-preserved
loop-j-preserved c =
    passed_on _ _ _ _ c.loop-j.invariant c.if-cells-j-eq0.false (rw c.from-slot.ensures at (sym c.is_call_of.ensures ∙ c.if-is_call_of.false))

pub returns-then-cells-j-eq0 : goal.returns-then-cells-j-eq0
returns-then-cells-j-eq0 c =
    call_nowhere _ (table_of c.args.t.now) (held_by c.args.x) _ _ _ c.requires (rw c.from.ensures at c.spread-place.ensures.0) c.loop-j.invariant c.if-cells-j-eq0.true

pub unreachable-requires : goal.unreachable-requires
unreachable-requires c = omega (arith, c.requires.most, c.spread-place.ensures.1, passed_most _ _ _ _ c.loop-j.invariant)
