-- `taken_in_record` meets its contract: the customer's four is that of the table.
use native.Mathlib.Omega.{arith}
use mathlib.Core.Path.{ap, ◌∙◌}
use mathlib.Core.Bool.{true}
use borrow.Author.Tests.{lt-ltb, le-ltb}
use Rattle.lists.specs.Count.{count_if}
use Rattle.table.specs.Lists.{Held}
use Rattle.table_words.proofs.Alike.{alike_held}
use Rattle.count_connections.proofs.taken_in_record.Goals as goal

pub returns-then-k-listed : goal.returns-then-k-listed
returns-then-k-listed c =
    let e = c.taken_in.ensures in (
      rw (lt-ltb _ _ c.if-k-listed.true)
          (e.0 ∙ ap (λ l. count_if (λ (x : Held). true) l) (alike_held _ _ c.customer_four.ensures)),
      e.1,
    )

pub returns : goal.returns
returns c = (rw (le-ltb _ _ c.if-k-listed.false), omega arith)
