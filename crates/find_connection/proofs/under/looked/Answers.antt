-- `under::looked` meets its contract: a free slot and one of another sender have nothing of the connection.
use native.Mathlib.Omega.{arith}
use Rattle.lists.proofs.Tests.{both}
use Rattle.table.specs.Lists.{call_at, call_four}
use Rattle.table.specs.Words.{table_of}
use Rattle.table_words.specs.Fours.{four_at_word}
use Rattle.table_words.proofs.Alike.{alike_held}
use Rattle.spec_calls.specs.PathRules.{held_by}
use Rattle.find_connection.proofs.Match.{match_none, named_none}
use Rattle.find_connection.proofs.Looked.{look_changed, look_kept}
use mathlib.Core.Path.{ap}
use mathlib.Core.Bool.{not}
use Rattle.find_connection.proofs.under.looked.Goals as goal

pub returns-then-not-used-x : goal.returns-then-not-used-x
returns-then-not-used-x c =
    let a = c.args in
    let d = call_at (table_of a.t.now) a.i in
    let x = held_by a.x in
    let four = four_at_word a.t.now c.call_four-f.result in
    let same = c.call_four-f.ensures in
    let none = rw (alike_held four (call_four d) same) at (match_none x four a.used (ap not c.if-not-used-x.true)) in
    (look_kept a.look a.i a.used d x none (named_none x d a.used (rw same.sender at (ap not c.if-not-used-x.true))), omega arith)

pub returns : goal.returns
returns c =
    let a = c.args in
    let d = call_at (table_of a.t.now) a.i in
    let x = held_by a.x in
    let says = rw (alike_held _ (call_four d) c.call_four-f.ensures) at c.match_four-m.ensures in
    let used = (both a.used _ (c.if-not-used-x.false)).0 in
    (look_changed a.look a.i a.used d x _ _ _ _ _ (rw used says) (rw used c.is_named-here.ensures) (rw c.then_some.ensures at c.or.ensures), omega (arith, says.3))
