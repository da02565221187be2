-- `open_call`: each return has the tests of its answer; where a call may be opened a slot is free.
use native.Mathlib.Omega.{arith}
use mathlib.Core.Path.{refl, sym, ◌∙◌}
use borrow.Author.Tests.{ne_eqb}
use Rattle.messages.specs.Status.{call_bit}
use Rattle.table.specs.Words.{table_of}
use Rattle.table.specs.Lists.{entries}
use Rattle.table.proofs.Within.{total_most}
use Rattle.answers.specs.declared.answer.Answer.TheVariants.{CallAlreadyOpen, DuplicateCall, CallIdContention, NoShare, CallOpened}
use Rattle.spec_calls.specs.CallRules.{ids_in}
use Rattle.spec_calls.proofs.Decided.{open_again, open_duplicate, open_contention, open_no_share, open_new}
use Rattle.spec_calls.proofs.Nameless.{named_retry, named_slot, named_long, named_short, named_new, named_reply}
use Rattle.spec_calls.proofs.Ruled.{open_room}
use Rattle.find_call.proofs.Looks.{found, not_open, open_in}
use Rattle.answer_call.specs.Notified.{reply_bytes}
use Rattle.answer_call.proofs.Sent.{sent_from, opened_bytes, refreshed_bytes, open_refused, open_again_sent, open_answered}
use Rattle.answer_call.proofs.named.open_call.Goals as goal

pub refresh_slot-requires : goal.refresh_slot-requires
refresh_slot-requires c = (open_in _ _ _ c.look_up-k.ensures _ c.in-Some.is).2

pub returns-in-Some : goal.returns-in-Some
returns-in-Some c =
    let t = table_of c.args.t.now in
    let s = c.args.r.msg.now in
    let q = c.args.r.q in
    let n = ne_eqb q.name.size 0 (omega (arith, c.requires.2)) in
    let f = open_in t (ids_in s q) _ c.look_up-k.ensures _ c.in-Some.is in
    let sent = sent_from (λ v. reply_bytes v s q call_bit CallAlreadyOpen) c.refresh_slot.ensures c.notified.ensures in
    open_again_sent t s _ q _ _ _ _ _ (open_again _ _ _ _ _ (named_retry q n (entries t) s ∙ f.0)) (f.1 ∙ sym (named_slot q n t s))
    (refreshed_bytes t _ s q call_bit CallAlreadyOpen ∙ sym (named_reply q n t s CallAlreadyOpen)) sent

pub returns-then-k : goal.returns-then-k
returns-then-k c =
    let t = table_of c.args.t.now in
    let s = c.args.r.msg.now in
    let q = c.args.r.q in
    let n = ne_eqb q.name.size 0 (omega (arith, c.requires.2)) in
    let f = found t (ids_in s q) _ c.look_up-k.ensures in
    open_refused t s _ q DuplicateCall _ _ _ _
    (open_duplicate _ _ _ _ _ (named_retry q n (entries t) s ∙ not_open _ _ _ c.look_up-k.ensures c.in_default.is) (named_long q n (entries t) s ∙ sym f.long ∙ c.if-k.true)) refl refl refl
    (sym (named_reply q n t s DuplicateCall)) c.notified-then-k.ensures

pub returns-then-k-2 : goal.returns-then-k-2
returns-then-k-2 c =
    let t = table_of c.args.t.now in
    let s = c.args.r.msg.now in
    let q = c.args.r.q in
    let n = ne_eqb q.name.size 0 (omega (arith, c.requires.2)) in
    let f = found t (ids_in s q) _ c.look_up-k.ensures in
    open_refused t s _ q CallIdContention _ _ _ _
    (open_contention _ _ _ _ _ (named_retry q n (entries t) s ∙ not_open _ _ _ c.look_up-k.ensures c.in_default.is) (named_long q n (entries t) s ∙ sym f.long ∙ c.if-k.false) (named_short q n (entries t) s ∙ sym f.short ∙ c.if-k-2.true)) refl refl refl
    (sym (named_reply q n t s CallIdContention)) c.notified-then-k-2.ensures

pub returns-then-share_used_up : goal.returns-then-share_used_up
returns-then-share_used_up c =
    let t = table_of c.args.t.now in
    let s = c.args.r.msg.now in
    let q = c.args.r.q in
    let n = ne_eqb q.name.size 0 (omega (arith, c.requires.2)) in
    let f = found t (ids_in s q) _ c.look_up-k.ensures in
    open_refused t s _ q NoShare _ _ _ _
    (open_no_share _ _ _ _ _ (named_retry q n (entries t) s ∙ not_open _ _ _ c.look_up-k.ensures c.in_default.is) (named_long q n (entries t) s ∙ sym f.long ∙ c.if-k.false) (named_short q n (entries t) s ∙ sym f.short ∙ c.if-k-2.false)
    (sym c.share_used_up.ensures ∙ c.if-share_used_up.true)) refl refl refl
    (sym (named_reply q n t s NoShare)) c.notified-then-share_used_up.ensures

pub open_named-requires : goal.open_named-requires
open_named-requires c =
    let p = c.requires in
    let t = table_of c.args.t.now in
    let s = c.args.r.msg.now in
    let q = c.args.r.q in
    let n = ne_eqb q.name.size 0 (omega (arith, p.2)) in
    let f = found t (ids_in s q) _ c.look_up-k.ensures in
    let e = open_new _ _ _ _ _ (named_retry q n (entries t) s ∙ not_open _ _ _ c.look_up-k.ensures c.in_default.is) (named_long q n (entries t) s ∙ sym f.long ∙ c.if-k.false) (named_short q n (entries t) s ∙ sym f.short ∙ c.if-k-2.false)
    (sym c.share_used_up.ensures ∙ c.if-share_used_up.false) in
    let slot = c.lowest_free-slot.ensures in
    (c.args.r.inside.name, c.args.r.inside.name_most, slot, rw slot (omega (arith, open_room t s q p.0 p.1 e, total_most t.form)))

pub returns : goal.returns
returns c =
    let t = table_of c.args.t.now in
    let s = c.args.r.msg.now in
    let q = c.args.r.q in
    let n = ne_eqb q.name.size 0 (omega (arith, c.requires.2)) in
    let f = found t (ids_in s q) _ c.look_up-k.ensures in
    let sent = sent_from (λ w. reply_bytes w s q call_bit CallOpened) c.open_named.ensures c.notified-2.ensures in
    open_answered t s _ q _ _ _ _ _
    (open_new _ _ _ _ _ (named_retry q n (entries t) s ∙ not_open _ _ _ c.look_up-k.ensures c.in_default.is) (named_long q n (entries t) s ∙ sym f.long ∙ c.if-k.false) (named_short q n (entries t) s ∙ sym f.short ∙ c.if-k-2.false)
    (sym c.share_used_up.ensures ∙ c.if-share_used_up.false))
    (sym (named_new q n (entries t) s)) (opened_bytes t _ s q call_bit CallOpened ∙ sym (named_reply q n t s CallOpened)) sent
