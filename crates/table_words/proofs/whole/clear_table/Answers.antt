-- `whole::clear_table` meets its contract.
use native.Mathlib.Omega.{arith}
use Rattle.table_words.proofs.Zeroed.{table_zeroed}
use Rattle.table_words.proofs.whole.clear_table.Goals as goal

pub returns : goal.returns
returns c = rw (c.fill.ensures.after (λ y h. h)) (table_zeroed _ (omega arith))
