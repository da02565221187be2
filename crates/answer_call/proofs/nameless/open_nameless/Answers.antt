-- `open_nameless`: each return has the tests of its answer; where a call may be opened a slot is free, and what is made is
-- the call that the open is for.
use native.Mathlib.Omega.{arith}
use mathlib.Core.Path.{refl, sym, ap, ◌∙◌}
use lib.ListN.{take}
use borrow.Author.Tests.{eq-eqb}
use Rattle.lists.proofs.Count.{has_true}
use Rattle.table.specs.Lists.{call_at, ids_of, entries}
use Rattle.table.specs.Words.{table_of}
use Rattle.table.proofs.Within.{total_most}
use Rattle.spec_changes.proofs.Firsts.{none_of, some_of}
use Rattle.spec_changes.proofs.Slot.{found_slot}
use Rattle.answers.specs.declared.answer.Answer.TheVariants.{CallAlreadyOpen, NoShare, CallOpened}
use Rattle.spec_calls.specs.CallRules.{is_made_by}
use Rattle.spec_calls.proofs.Decided.{open_again, open_no_share, open_new}
use Rattle.spec_calls.proofs.Nameless.{made_retry, found_same, made_long, made_short_lem, reply_21, reply_34}
use Rattle.spec_calls.proofs.Ruled.{open_room}
use Rattle.answer_call.specs.Notified.{made_bytes}
use Rattle.answer_call.proofs.Sent.{sent_from, opened_made, open_refused, open_again_sent, open_answered}
use Rattle.answer_call.proofs.Made.{made_is_new, made_reply}
use Rattle.answer_call.proofs.nameless.open_nameless.Goals as goal

pub answered_again-requires : goal.answered_again-requires
answered_again-requires c =
    let t = table_of c.args.t.now in
    let h = some_of _ _ _ (sym c.in-Some.ensures) in
    let f = found_slot t (is_made_by c.args.r.q) (has_true _ (entries t) h.0) in
    (c.requires.0, rw (← h.1) f.0, rw (← h.1) f.1, c.requires.3)

pub returns-in-Some : goal.returns-in-Some
returns-in-Some c =
    let t = table_of c.args.t.now in
    let s = c.args.r.msg.now in
    let q = c.args.r.q in
    let n = eq-eqb q.name.size 0 c.requires.2 in
    let h = some_of _ _ _ (sym c.in-Some.ensures) in
    let bytes = ap (λ k. made_bytes t s q CallAlreadyOpen (ids_of (call_at t k)).short (ids_of (call_at t k)).long) (sym h.1) in
    open_again_sent t s _ q _ _ _ _ _ (open_again _ _ _ _ _ (made_retry q n (entries t) s ∙ h.0)) (sym h.1 ∙ sym (found_same q n t s))
    (bytes ∙ sym (reply_21 q n t s)) c.answered_again.ensures

pub returns-then-share_used_up : goal.returns-then-share_used_up
returns-then-share_used_up c =
    let t = table_of c.args.t.now in
    let s = c.args.r.msg.now in
    let q = c.args.r.q in
    let n = eq-eqb q.name.size 0 c.requires.2 in
    open_refused t s _ q NoShare _ _ _ _
    (open_no_share _ _ _ _ _ (made_retry q n (entries t) s ∙ none_of _ _ (sym c.in_default.ensures)) (made_long q n (entries t) s) (made_short_lem q n (entries t) s) (sym c.share_used_up.ensures ∙ c.if-share_used_up.true)) refl refl refl
    (sym (reply_34 q n t s)) c.notified.ensures

pub open_made-requires : goal.open_made-requires
open_made-requires c =
    let t = table_of c.args.t.now in
    let s = c.args.r.msg.now in
    let q = c.args.r.q in
    let n = eq-eqb q.name.size 0 c.requires.2 in
    let e = open_new _ _ _ _ _ (made_retry q n (entries t) s ∙ none_of _ _ (sym c.in_default.ensures)) (made_long q n (entries t) s) (made_short_lem q n (entries t) s) (sym c.share_used_up.ensures ∙ c.if-share_used_up.false) in
    let slot = c.lowest_free-slot.ensures in
    (c.made_name_words-words.ensures, slot, rw slot (omega (arith, open_room t s q c.requires.0 c.requires.1 e, total_most t.form)))

pub returns : goal.returns
returns c =
    let t = table_of c.args.t.now in
    let s = c.args.r.msg.now in
    let q = c.args.r.q in
    let n = eq-eqb q.name.size 0 c.requires.2 in
    let id = c.made_short-id.result.0 in
    let name = c.name_bytes-name.result in
    let sent = sent_from (λ v. made_bytes v s q CallOpened id (take 20 name)) c.open_made.ensures c.notified-2.ensures in
    open_answered t s _ q _ _ _ _ _
    (open_new _ _ _ _ _ (made_retry q n (entries t) s ∙ none_of _ _ (sym c.in_default.ensures)) (made_long q n (entries t) s) (made_short_lem q n (entries t) s) (sym c.share_used_up.ensures ∙ c.if-share_used_up.false))
    (made_is_new t s q n id c.made_short-id.ensures.0) (opened_made t _ s q CallOpened id (take 20 name) ∙ made_reply t s q n id c.made_short-id.ensures.0 name (c.name_bytes-name.ensures ∙ c.made_name_words-words.ensures)) sent
