-- `calls::call_clear` meets its contract.
use mathlib.Core.Path.{◌∙◌}
use Rattle.table.specs.Words.{call_start}
use Rattle.table.proofs.Cells.{call_at_lem}
use Rattle.table_words.proofs.Zeroed.{clear_call_words}
use Rattle.table_words.proofs.calls.call_clear.Goals as goal

pub returns : goal.returns
returns c =
    let w = c.args.t.now in
    rw (call_at_lem w c.args.i c.requires) (c.zero_words.ensures ∙ clear_call_words w (call_start c.args.i))
