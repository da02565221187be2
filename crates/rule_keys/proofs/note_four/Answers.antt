use native.Mathlib.Omega.{arith}
use mathlib.Core.Path.{◌≡◌, sym}
use mathlib.Core.List.{append-nil}
use Rattle.table_words.specs.Fours.{four_at_word}
use Rattle.rule_keys.specs.Noted.{noted_keys}
use Rattle.rule_keys.proofs.Places.{keys_none, keys_turn}
use Rattle.rule_keys.proofs.note_four.Goals as goal

pub loop-j-init : goal.loop-j-init
loop-j-init c =
    let z = c.args in
    (rw (keys_none (four_at_word z.t.now z.f)) (sym (append-nil _)), omega arith)

pub loop-j-preserved : goal.loop-j-preserved
loop-j-preserved c =
    let z = c.args in
    let e = c.note_place.ensures in
    (keys_turn (four_at_word z.t.now z.f) c.loop-j.j (noted_keys z.noted.now) _ _ c.loop-j.invariant.0 e.0, omega arith)

pub returns : goal.returns
returns c =
    let e : c.loop-j.j ≡ 4 = omega arith in
    (rw e at c.loop-j.invariant.0, omega arith)
