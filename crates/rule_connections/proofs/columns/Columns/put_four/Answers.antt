use native.Mathlib.Omega.{arith}
use mathlib.Core.Path.{◌≡◌, sym}
use mathlib.Core.List.{append-nil}
use Rattle.lists.proofs.Below.{below_none}
use Rattle.table.specs.Lists.{held_place}
use Rattle.table_words.specs.Fours.{four_at_word}
use Rattle.rule_connections.specs.Columns.{rows_in}
use Rattle.rule_connections.proofs.Rows.{lsps_turn}
use Rattle.rule_connections.proofs.columns.Columns.put_four.Goals as goal

pub loop-j-init : goal.loop-j-init
loop-j-init c = (rw (below_none (held_place (four_at_word c.args.t.now c.args.f))) (sym (append-nil _)), omega arith)

pub loop-j-preserved : goal.loop-j-preserved
loop-j-preserved c =
    let z = c.args in
    let e = c.put_place.ensures in
    (lsps_turn (held_place (four_at_word z.t.now z.f)) c.loop-j.j (rows_in z.f.sender z.self.now) _ _ c.loop-j.invariant.0 e.0, omega arith)

pub returns : goal.returns
returns c =
    let e : c.loop-j.j ≡ 4 = omega arith in
    (rw e at c.loop-j.invariant.0, omega arith)
