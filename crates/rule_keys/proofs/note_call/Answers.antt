-- `note_call` meets its contract.
use native.Mathlib.Omega.{arith}
use Rattle.table.specs.Lists.{call_at}
use Rattle.table.specs.Words.{table_of}
use Rattle.table_words.specs.Fours.{four_at_word}
use Rattle.rule_keys.specs.Noted.{noted_keys}
use Rattle.rule_keys.proofs.Places.{call_keys_lem}
use Rattle.rule_keys.proofs.note_call.Goals as goal

pub returns : goal.returns
returns c =
    let z = c.args in
    let one = c.note.ensures in
    let two = c.note-2.ensures in
    let three = c.note_request.ensures in
    let e = c.note_four.ensures in (
      call_keys_lem (call_at (table_of z.t.now) z.i) c.call_head-c.result (four_at_word z.t.now c.call_four.result) c.call_head-c.ensures c.call_four.ensures _ _ (noted_keys z.noted.now) _ _ _ _ c.short_key.ensures c.long_key.ensures one.0 two.0 three.0 e.0,
      omega (arith, one.1, two.1, three.1, e.1),
    )
