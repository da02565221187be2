-- `answered_again`: the slot's IDs fit their fields by the table rules.
use native.Mathlib.Omega.{arith}
use mathlib.Core.Path.{sym, ap}
use lib.ListN.{take, length-take}
use lib.Seq.{length-take-le}
use Rattle.table.specs.Words.{table_of}
use Rattle.table_words.specs.declared.calls.CallHead.{CallHead}
use Rattle.answers.specs.declared.answer.Answer.TheVariants.{CallAlreadyOpen}
use Rattle.answer_call.specs.Notified.{made_bytes}
use Rattle.answer_call.proofs.Made.{slot_named}
use Rattle.answer_call.proofs.Sent.{sent_from, with_bytes, refreshed_made}
use Rattle.answer_call.proofs.nameless.answered_again.Goals as goal

pub overflow_cast-call : goal.overflow_cast-call
overflow_cast-call c =
    let n = slot_named (table_of c.args.t.now) c.requires.0 c.args.slot c.requires.1 c.requires.2 in
    omega (arith, ap (λ (k : CallHead). k.id.0) c.call_head-c.ensures, n.fits)

pub invariant_of-made : goal.invariant_of-made
invariant_of-made c =
    let n = slot_named (table_of c.args.t.now) c.requires.0 c.args.slot c.requires.1 c.requires.2 in
    record { fits = simp length-take (omega (arith, ap (λ (k : CallHead). k.size) c.call_head-c.ensures, n.most)) }

pub slice_bounds-name-end : goal.slice_bounds-name-end
slice_bounds-name-end c =
    let n = slot_named (table_of c.args.t.now) c.requires.0 c.args.slot c.requires.1 c.requires.2 in
    omega (arith, ap (λ (k : CallHead). k.size) c.call_head-c.ensures, n.most)

pub slice_bounds-made-end : goal.slice_bounds-made-end
slice_bounds-made-end c =
    let n = slot_named (table_of c.args.t.now) c.requires.0 c.args.slot c.requires.1 c.requires.2 in
    sym (length-take-le _ _ (omega (arith, ap (λ (k : CallHead). k.size) c.call_head-c.ensures, n.most)))

pub returns : goal.returns
returns c =
    let t = table_of c.args.t.now in
    let id = c.call_head-c.result.id.0 in
    let long = take c.call_head-c.result.size c.slot_name-name.result in
    let sent = sent_from (λ v. made_bytes v c.args.r.msg.now c.args.r.q CallAlreadyOpen id long) c.refresh_slot.ensures c.notified.ensures in
    rw (c.slot_name-name.ensures, c.call_head-c.ensures) at (with_bytes (refreshed_made t c.args.slot c.args.r.msg.now c.args.r.q CallAlreadyOpen id long) sent)
