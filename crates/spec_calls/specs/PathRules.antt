-- Path and PathTear (01, Every answer): over the open calls and the connections.
use Rattle.std.specs.Prelude.{List, Bool, cond, not, ◌&&◌, leb, eqb}
use Rattle.lists.specs.Count.{count_if, has}
use Rattle.messages.specs.declared.message.Lsp as message
use Rattle.messages.specs.declared.message.Connection.{Connection}
use Rattle.table.specs.Lists.{Entry, Lsp, Held}
use Rattle.table.specs.Rules.{is_lsp}
use Rattle.spec_changes.specs.Connections.{same_four, call_missing}
use Rattle.answers.specs.declared.answer.Answer.{Answer}
use Rattle.answers.specs.declared.answer.Answer.TheVariants.{UnderOtherCall, NotHeld, ConnectionAdded, ConnectionAlreadyHeld, ConnectionRemoved, PathUnknownCall, NoPlaceLeft}

-- the connection that a Path or a PathTear names
abbrev pub lsp_of : message.Lsp → Lsp
lsp_of x = record { endpoint = x.endpoint; tunnel = x.tunnel.0; extended = x.extended; sender = x.sender; lsp_id = x.lsp.0 }

-- with the Call ID that the message has beside it
abbrev pub held_by : Connection → Held
held_by c = record { call = c.call.0; lsp = lsp_of c.lsp }

-- the same connection under another Call ID; 0, no call, is another than 5
abbrev pub under_other : Held → Held → Bool
under_other x y = is_lsp x.lsp y && not (eqb x.call y.call)

-- 14, 24, 35, 37, 23
unfoldable pub add_answer : List Entry → List Held → Held → Answer
add_answer l h x =
    cond (has (under_other x) h) UnderOtherCall
    (cond (has (is_lsp x.lsp) h) ConnectionAlreadyHeld
    (cond (call_missing l x) PathUnknownCall
    (cond (leb 4 (count_if (same_four x) h)) NoPlaceLeft
    ConnectionAdded)))

-- 15, 25: the Call ID is not looked at
unfoldable pub drop_answer : List Held → Lsp → Answer
drop_answer h x = cond (has (is_lsp x) h) ConnectionRemoved NotHeld
