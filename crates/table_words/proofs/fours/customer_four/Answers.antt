-- `fours::customer_four` meets its contract: what stands there is the customer's four.
use Rattle.table_words.proofs.Found.{customer_four_lem}
use Rattle.table_words.proofs.fours.customer_four.Goals as goal

pub returns : goal.returns
returns c =
    rw c.word.ensures (customer_four_lem c.args.t.now c.args.k c.requires)
