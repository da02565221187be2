use native.Mathlib.Omega.{arith}
use mathlib.Core.Path.{◌≡◌}
use Rattle.rule_connections.proofs.Rows.{rows_none, once_turn}
use Rattle.rule_connections.proofs.columns.Columns.is_once.Goals as goal

pub loop-i-init : goal.loop-i-init
loop-i-init c = λ s. rw (rows_none s _ _ _ _)

pub loop-i-preserved : goal.loop-i-preserved
loop-i-preserved c =
    λ s. once_turn s _ _ _ _ c.loop-i.i c.loop-i.found _ (c.loop-i.invariant s) (c.is_repeated-found.ensures s)

pub returns : goal.returns
returns c =
    let e : c.loop-i.i ≡ c.args.self.now.count = omega arith in
    λ s. rw e at (c.loop-i.invariant s)
