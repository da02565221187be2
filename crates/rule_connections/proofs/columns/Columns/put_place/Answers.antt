-- `columns::Columns::put_place` meets its contract.
use native.Mathlib.Omega.{arith}
use mathlib.Core.Path.{sym}
use mathlib.Core.List.{append-nil}
use Rattle.table_words.specs.Fours.{four_at_word}
use Rattle.rule_connections.proofs.Rows.{place_taken, place_free, rows_put}
use Rattle.rule_connections.proofs.columns.Columns.put_place.Goals as goal

pub returns-then-p-eq1 : goal.returns-then-p-eq1
returns-then-p-eq1 c =
    let p = c.place_words-p in
    let z = c.args in
    let s = z.self.now in
    let one = place_taken (four_at_word z.t.now z.f) p.result z.j p.ensures _ c.if-p-eq1.true c.endpoint_at.ensures in
    (rw one (rows_put z.f.sender s.endpoints s.tunnels s.extended s.lsps s.count _ _ _ _ (omega arith) (omega arith) (omega arith) (omega arith)), omega arith)

pub returns-else-p-eq1 : goal.returns-else-p-eq1
returns-else-p-eq1 c =
    let p = c.place_words-p in
    let none = place_free (four_at_word c.args.t.now c.args.f) p.result c.args.j p.ensures c.if-p-eq1.false in
    (rw none (sym (append-nil _)), omega arith)
