-- `digits::four_digits` meets its contract.
use mathlib.Core.Path.{sym, ◌∙◌}
use Rattle.table_words.proofs.NameBytes.{word_bytes}
use Rattle.make_ids.proofs.HexDigits.{four_digits}
use Rattle.make_ids.proofs.digits.four_digits.Goals as goal

pub returns : goal.returns
returns c =
    let third = c.hex_digit-c.ensures in
    let second = c.hex_digit-b.ensures in
    let first = c.hex_digit-a.ensures in
    let last = c.hex_digit-d.ensures in
    word_bytes _ _ _ _ first.1 second.1 third.1 last.1 ∙ rw (first.0, second.0, third.0, last.0) (sym (four_digits _))
