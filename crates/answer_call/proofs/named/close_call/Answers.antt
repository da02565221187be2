-- `close_call`: each return has the tests of its answer; the slot is the one that the look-up found.
use Prim.Native.Nat.{◌+◌}
use native.Mathlib.Omega.{arith}
use mathlib.Core.Path.{sym, ap, ◌∙◌}
use Rattle.messages.specs.declared.message.Message.TheVariants.{Close}
use Rattle.table.specs.Words.{table_of}
use Rattle.answers.specs.declared.answer.Answer.TheVariants.{UnknownCall, ConnectionsStillExist, CallClosed}
use Rattle.spec_changes.specs.Calls.{identifier_taken}
use Rattle.spec_changes.proofs.Tables.{closed_is}
use Rattle.spec_calls.specs.CallRules.{ids_in}
use Rattle.spec_calls.proofs.Decided.{close_unknown, close_busy, close_idle}
use Rattle.find_call.proofs.Looks.{found, not_open, open_in}
use Rattle.outcomes.proofs.Ruled.{ruled_by}
use Rattle.messages.specs.Status.{call_bit, delete_bit}
use Rattle.answer_call.specs.Notified.{reply_bytes}
use Rattle.answer_call.proofs.Sent.{sent_from, with_bytes, freed_bytes}
use Rattle.answer_call.proofs.named.close_call.Goals as goal

pub returns-in_default : goal.returns-in_default
returns-in_default c =
    let t = table_of c.args.t.now in
    let q = c.args.r.q in
    let n = c.notified.ensures in
    ruled_by t _ _ (Close q) UnknownCall _ _ _ _ (close_unknown _ _ _ (not_open _ _ _ c.look_up-k.ensures c.in_default.is)) n.answer n.length n.table n.reply

pub returns-then-k : goal.returns-then-k
returns-then-k c =
    let t = table_of c.args.t.now in
    let q = c.args.r.q in
    let n = c.notified-then-k.ensures in
    let f = found t (ids_in c.args.r.msg.now q) _ c.look_up-k.ensures in
    let some = c.requires.1.call_some in
    ruled_by t _ _ (Close q) ConnectionsStillExist _ _ _ _
    (close_busy _ _ _ ((open_in _ _ _ c.look_up-k.ensures _ c.in-Some.is).0) (sym (f.busy (λ e. omega (arith, e, some))) ∙ c.if-k.true))
    n.answer n.length n.table n.reply

pub close_slot-requires : goal.close_slot-requires
close_slot-requires c = (open_in _ _ _ c.look_up-k.ensures _ c.in-Some.is).2

pub returns : goal.returns
returns c =
    let t = table_of c.args.t.now in
    let q = c.args.r.q in
    let f = found t (ids_in c.args.r.msg.now q) _ c.look_up-k.ensures in
    let some = c.requires.1.call_some in
    let sent = sent_from (λ w. reply_bytes w c.args.r.msg.now q (call_bit + delete_bit) CallClosed) c.close_slot.ensures c.notified-2.ensures in
    let n = with_bytes (freed_bytes t _ c.args.r.msg.now q (call_bit + delete_bit) CallClosed) sent in
    ruled_by t _ _ (Close q) CallClosed _ _ _ _
    (close_idle _ _ _ ((open_in _ _ _ c.look_up-k.ensures _ c.in-Some.is).0) (sym (f.busy (λ e. omega (arith, e, some))) ∙ c.if-k.false))
    n.answer n.length (n.table ∙ ap identifier_taken (closed_is t _ _ (open_in _ _ _ c.look_up-k.ensures _ c.in-Some.is).1)) n.reply
