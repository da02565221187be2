-- `digits::hex_digit` meets its contract.
use native.Mathlib.Omega.{arith}
use Rattle.make_ids.proofs.HexDigits.{digit_low, digit_high}
use Rattle.make_ids.proofs.digits.hex_digit.Goals as goal

pub returns-then-d-lt10 : goal.returns-then-d-lt10
returns-then-d-lt10 c = (digit_low c.args.d c.if-d-lt10.true, omega arith)

pub returns-else-d-lt10 : goal.returns-else-d-lt10
returns-else-d-lt10 c = (digit_high c.args.d c.if-d-lt10.false, omega arith)
