-- `digits::digit_value` meets its contract.
use Rattle.make_ids.proofs.HexDigits.{value_low, value_high}
use Rattle.make_ids.proofs.digits.digit_value.Goals as goal

pub returns-then-b-lt97 : goal.returns-then-b-lt97
returns-then-b-lt97 c = value_low c.args.b c.if-b-lt97.true

pub returns-else-b-lt97 : goal.returns-else-b-lt97
returns-else-b-lt97 c = value_high c.args.b c.if-b-lt97.false
