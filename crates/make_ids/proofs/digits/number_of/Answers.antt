-- `digits::number_of` meets its contract: digits are read as they were written.
use Rattle.make_ids.proofs.HexDigits.{number_read, number_none}
use Rattle.make_ids.proofs.digits.number_of.Goals as goal

pub returns-then-four_digits-word : goal.returns-then-four_digits-word
returns-then-four_digits-word c =
    number_read _ _ _ _ c.digit_value-b.ensures c.digit_value-c.ensures c.digit_value-d.ensures _ c.four_digits.ensures c.if-four_digits-word.true

pub returns : goal.returns
returns c =
    number_none _ _ _ _ c.digit_value-b.ensures c.digit_value-c.ensures c.digit_value-d.ensures _ c.four_digits.ensures c.if-four_digits-word.false
