-- `customers::customer_clear` meets its contract.
use mathlib.Core.Path.{◌∙◌}
use Rattle.table.specs.Words.{customer_start}
use Rattle.table.proofs.Cells.{customer_at_lem}
use Rattle.table_words.proofs.Zeroed.{clear_customer_words}
use Rattle.table_words.proofs.customers.customer_clear.Goals as goal

pub returns : goal.returns
returns c =
    let w = c.args.t.now in
    rw (customer_at_lem w c.args.k c.requires) (c.zero_words.ensures ∙ clear_customer_words w (customer_start c.args.k))
