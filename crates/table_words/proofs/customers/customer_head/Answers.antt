-- `customers::customer_head` meets its contract: the record's customer is that of its words.
use native.Mathlib.Omega.{arith}
use mathlib.Core.Path.{sym, ap}
use Rattle.table_words.specs.Heads.{customer_head_of}
use Rattle.table.proofs.Cells.{customer_at_lem}
use Rattle.table_words.proofs.customers.customer_head.Goals as goal

pub returns : goal.returns
returns c = (
  rw (c.word.ensures, c.word-2.ensures) (sym (ap customer_head_of (customer_at_lem c.args.t.now c.args.k c.requires))),
  omega arith,
  omega arith,
)
