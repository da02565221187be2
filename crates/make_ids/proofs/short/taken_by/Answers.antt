-- `short::taken_by` meets its contract.
use Rattle.table.specs.Lists.{call_at}
use Rattle.table.specs.Words.{table_of}
use Rattle.make_ids.proofs.Taken.{takes_none, takes_two}
use mathlib.Core.Path.{ap}
use mathlib.Core.Bool.{not}
use Rattle.make_ids.proofs.short.taken_by.Goals as goal

pub returns-then-not-pair : goal.returns-then-not-pair
returns-then-not-pair c =
    let a = c.args in
    takes_none a.used a.endpoint a.sender (call_at (table_of a.t.now) a.i) (rw c.call_head-c.ensures at (ap not c.if-not-pair.true))

pub returns : goal.returns
returns c =
    let a = c.args in
    let d = call_at (table_of a.t.now) a.i in
    let short = rw c.call_head-c.ensures at c.mark_of-short.ensures in
    takes_two a.used a.endpoint a.sender d a.p _ _ _ c.requires.1 (rw c.call_head-c.ensures at (ap not c.if-not-pair.false)) short c.number_in.ensures c.mark_of-name.ensures
