use native.Mathlib.Omega.{arith}
use mathlib.Core.Path.{◌≡◌, ◌∙◌}
use mathlib.Core.List.{[]}
use Rattle.lists.proofs.Below.{below_none}
use Rattle.table.specs.Words.{table_of}
use Rattle.table_words.specs.Fours.{four_at_word}
use Rattle.rule_connections.specs.Own.{own_at}
use Rattle.rule_connections.proofs.Rows.{rows_none, lsps_turn}
use Rattle.rule_connections.proofs.Own.{own_once}
use Rattle.rule_connections.proofs.customer_once.Goals as goal

pub loop-i-init : goal.loop-i-init
loop-i-init c = (rw (rows_none _ _ _ _ _, below_none _), omega arith)

pub loop-i-preserved : goal.loop-i-preserved
loop-i-preserved c =
    let own = own_at (table_of c.args.t.now) c.customer_four-g.result.sender in
    let e = c.put_call.ensures in
    (lsps_turn own c.loop-i.i [] _ _ c.loop-i.invariant.0 e.0, omega arith)

pub returns : goal.returns
returns c =
    let t = c.args.t.now in
    let u = c.used_below-i-end in
    let sender = c.customer_four-g.result.sender in
    let e : c.loop-i.i ≡ u.result = omega arith in
    c.is_once.ensures sender
    ∙ own_once (table_of t) c.args.k _ (four_at_word t c.customer_four-g.result) _ _ c.customer_four-g.ensures u.ensures.0 u.ensures.1
    (rw e at c.loop-i.invariant.0) c.put_four.ensures.0
