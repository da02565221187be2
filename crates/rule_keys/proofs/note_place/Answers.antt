-- `note_place` meets its contract.
use native.Mathlib.Omega.{arith}
use mathlib.Core.Path.{sym}
use mathlib.Core.List.{append-nil}
use Rattle.table_words.specs.Fours.{four_at_word}
use Rattle.rule_keys.proofs.Places.{place_taken, place_free}
use Rattle.rule_keys.proofs.note_place.Goals as goal

pub returns-then-p-eq1 : goal.returns-then-p-eq1
returns-then-p-eq1 c =
    let p = c.place_words-p in
    let z = c.args in
    let e = c.note.ensures in
    let one = place_taken (four_at_word z.t.now z.f) p.result z.j p.ensures _ _ c.if-p-eq1.true c.endpoint_at.ensures c.lsp_key.ensures in
    (rw one e.0, omega arith)

pub returns-else-p-eq1 : goal.returns-else-p-eq1
returns-else-p-eq1 c =
    let p = c.place_words-p in
    let none = place_free (four_at_word c.args.t.now c.args.f) p.result c.args.j p.ensures c.if-p-eq1.false in
    (rw none (sym (append-nil _)), omega arith)
