-- `put_call` meets its contract: the slot's four is that of the table.
use native.Mathlib.Omega.{arith}
use mathlib.Core.Path.{sym}
use mathlib.Core.List.{append-nil}
use borrow.Author.Tests.{eqb-true}
use Rattle.lists.proofs.Tests.{both}
use Rattle.table.specs.Words.{table_of}
use Rattle.table_words.proofs.Alike.{alike_held}
use Rattle.rule_connections.proofs.Own.{slot_own, slot_other}
use Rattle.rule_connections.proofs.put_call.Goals as goal

pub returns-then-is_used-f : goal.returns-then-is_used-f
returns-then-is_used-f c =
    let t = table_of c.args.t.now in
    let a = c.call_four-f.ensures in
    let sender = eqb-true c.call_four-f.result.sender c.args.sender (both c.is_used.result _ c.if-is_used-f.true).1 in
    (rw (slot_own t c.args.sender c.args.i _ _ c.is_used.ensures a.sender c.if-is_used-f.true, ← (alike_held _ _ a), ← sender) c.put_four.ensures.0, c.put_four.ensures.1)

pub returns-else-is_used-f : goal.returns-else-is_used-f
returns-else-is_used-f c =
    let t = table_of c.args.t.now in
    (rw (slot_other t c.args.sender c.args.i _ _ c.is_used.ensures c.call_four-f.ensures.sender c.if-is_used-f.false) (sym (append-nil _)), omega arith)
