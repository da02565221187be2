-- `slot_tidy` meets its contract.
use Rattle.rule_zeros.proofs.slot_tidy.Goals as goal

pub returns-then-is_used : goal.returns-then-is_used
returns-then-is_used c = rw (← c.is_used.ensures, c.if-is_used.true) c.call_tidy.ensures

pub returns : goal.returns
returns c = rw (← c.is_used.ensures, c.if-is_used.false) c.call_clear.ensures
