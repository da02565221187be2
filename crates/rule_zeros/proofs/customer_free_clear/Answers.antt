-- `customer_free_clear` meets its contract, by what `customer_free_clear` says.
use Rattle.table.specs.Lists.{customer_at}
use Rattle.table.specs.Words.{table_of}
use Rattle.table_words.specs.Fours.{four_at_word}
use Rattle.rule_zeros.proofs.Free.{customer_by_four}
use Rattle.rule_zeros.proofs.customer_free_clear.Goals as goal

pub returns : goal.returns
returns c =
    let a = c.args in
    customer_by_four (customer_at (table_of a.t.now) a.k) (four_at_word a.t.now c.customer_four-f.result) _ _ _ c.customer_four-f.ensures c.kept_tidy.ensures c.four_valid.ensures c.endpoints_clear.ensures
