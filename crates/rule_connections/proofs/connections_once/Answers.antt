use native.Mathlib.Omega.{arith}
use mathlib.Core.Path.{◌≡◌, ◌∙◌}
use Rattle.table.specs.Words.{table_of}
use Rattle.rule_connections.proofs.Customers.{customers_once}
use Rattle.rule_connections.proofs.connections_once.Goals as goal

pub returns : goal.returns
returns c =
    let e : c.loop-k.k ≡ 8 = omega arith in
    rw c.listed-listed.ensures at (rw e at c.loop-k.invariant) ∙ customers_once (table_of c.args.t.now) c.requires.0 c.requires.1
