use native.Mathlib.Omega.{arith}
use mathlib.Core.Path.{sym, ap, ◌∙◌}
use Rattle.table.specs.Rules.{is_lsp}
use Rattle.spec_calls.specs.PathRules.{lsp_of}
use Rattle.checkpoint_connections.proofs.Cells.{passed_start, passed_on, passed_most}
use Rattle.checkpoint_connections.proofs.InCells.{held_there, held_nowhere}
use Rattle.checkpoint_connections.proofs.connections.seek.Goals as goal

pub loop-j-init : goal.loop-j-init
loop-j-init c = passed_start _ _ _

pub connection-requires : goal.connection-requires
connection-requires c = omega (arith, c.requires.1 c.loop-j.j, c.if-cells-j-eq0.false, c.args.c.connections_is)

pub returns-then-is_of : goal.returns-then-is_of
returns-then-is_of c l k =
    held_there _ c.args.c.bytes.now l _ (lsp_of c.args.x) _ k c.if-cells-j-eq0.false
    (rw c.from.ensures at (sym (c.is_of.ensures ∙ ap (λ y. is_lsp (lsp_of c.args.x) y) c.connection.ensures) ∙ c.if-is_of.true))

pub loop-j-preserved : goal.loop-j-preserved
loop-j-preserved c =
    passed_on _ _ _ _ c.loop-j.invariant c.if-cells-j-eq0.false (rw c.from.ensures at (sym (c.is_of.ensures ∙ ap (λ y. is_lsp (lsp_of c.args.x) y) c.connection.ensures) ∙ c.if-is_of.false))

pub returns-then-cells-j-eq0 : goal.returns-then-cells-j-eq0
returns-then-cells-j-eq0 c l k =
    held_nowhere _ c.args.c.bytes.now l _ (lsp_of c.args.x) _ _ k c.lsp_place-place.ensures.0 c.loop-j.invariant c.if-cells-j-eq0.true (omega arith)

pub unreachable-requires : goal.unreachable-requires
unreachable-requires c = omega (arith, c.requires.0, c.lsp_place-place.ensures.1, passed_most _ _ _ _ c.loop-j.invariant)
