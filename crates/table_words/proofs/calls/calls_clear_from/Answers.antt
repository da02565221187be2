-- `calls::calls_clear_from` meets its contract.
use mathlib.Core.Path.{◌∙◌}
use Rattle.table_words.proofs.Zeroed.{clear_calls_words}
use Rattle.table_words.proofs.calls.calls_clear_from.Goals as goal

pub returns : goal.returns
returns c = c.zero_words.ensures ∙ clear_calls_words c.args.t.now c.args.n
