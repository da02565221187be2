-- `kept_tidy` meets its contract: the record's three words are what `last_words` says.
use mathlib.Core.Bool.{true, false}
use borrow.Author.Tests.{eq-eqb, ne_eqb}
use Rattle.table.specs.Lists.{customer_at}
use Rattle.table.specs.Words.{table_of}
use Rattle.rule_zeros.proofs.Free.{kept_by_words}
use Rattle.rule_zeros.proofs.kept_tidy.Goals as goal

pub returns-then-m-eq1 : goal.returns-then-m-eq1
returns-then-m-eq1 c =
    let a = c.args in
    kept_by_words (customer_at (table_of a.t.now) a.k) _ true c.last_words-m.ensures (eq-eqb _ 1 c.if-m-eq1.true)

pub returns : goal.returns
returns c =
    let a = c.args in
    kept_by_words (customer_at (table_of a.t.now) a.k) _ false c.last_words-m.ensures (ne_eqb _ 1 c.if-m-eq1.false)
