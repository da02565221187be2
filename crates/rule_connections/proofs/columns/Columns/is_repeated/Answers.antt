use native.Mathlib.Omega.{arith}
use mathlib.Core.Path.{◌≡◌}
use Rattle.rule_connections.proofs.Rows.{rows_none, repeated_turn}
use Rattle.rule_connections.proofs.columns.Columns.is_repeated.Goals as goal

pub loop-j-init : goal.loop-j-init
loop-j-init c = λ s. rw (rows_none s _ _ _ _)

pub loop-j-preserved : goal.loop-j-preserved
loop-j-preserved c =
    let z = c.args.self.now in
    λ s. repeated_turn s z.endpoints z.tunnels z.extended z.lsps c.args.i c.loop-j.j _ (c.loop-j.invariant s)

pub returns : goal.returns
returns c =
    let e : c.loop-j.j ≡ c.args.i = omega arith in
    λ s. rw e at (c.loop-j.invariant s)
