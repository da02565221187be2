-- `customers::last_words` meets its contract: the record's customer is that of its words.
use mathlib.Core.Path.{sym, ap}
use Rattle.table_words.specs.Heads.{last_words_of}
use Rattle.table.proofs.Cells.{customer_at_lem}
use Rattle.table_words.proofs.customers.last_words.Goals as goal

pub returns : goal.returns
returns c =
    rw (c.word.ensures, c.word-2.ensures, c.word-3.ensures)
    (sym (ap last_words_of (customer_at_lem c.args.t.now c.args.k c.requires)))
