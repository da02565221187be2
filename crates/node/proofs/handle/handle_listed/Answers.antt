-- `handle_listed`: 16 leaves all as it was; else the rules' outcome, and the MESSAGE_ID kept in the record that was looked
-- up, which is the sender's still.
use mathlib.Core.Path.{sym, ap, ◌∙◌}
use Rattle.table.specs.Words.{table_of}
use Rattle.spec_changes.specs.Connections.{customer_of}
use Rattle.spec_changes.proofs.Last.{listed_record}
use Rattle.answers.specs.declared.answer.Answer.TheVariants.{Late}
use Rattle.spec_calls.specs.Form.{sender_of}
use Rattle.spec_calls.specs.Handling.{rule_answer}
use Rattle.spec_calls.proofs.Untouched.{record_same}
use Rattle.outcomes.proofs.Handled.{settled_late, settled_kept}
use Rattle.outcomes.proofs.Unanswered.{left_quiet}
use Rattle.node.proofs.handle.handle_listed.Goals as goal

pub is_late_message-requires : goal.is_late_message-requires
is_late_message-requires c =
    let k = c.requires.4.place in
    (rw k (listed_record (table_of c.args.t.now) (sender_of c.args.m) c.requires.1).inside, k)

pub returns-then-is_late_message : goal.returns-then-is_late_message
returns-then-is_late_message c =
    let t = table_of c.args.t.now in
    left_quiet t _ Late _ c.unanswered.ensures ∙ sym (settled_late t c.args.msg.now c.args.reply.now c.args.m (sym c.is_late_message.ensures ∙ c.if-is_late_message.true))

pub keep_message_id-requires : goal.keep_message_id-requires
keep_message_id-requires c =
    let t = table_of c.args.t.now in
    let s = c.args.msg.now in
    let m = c.args.m in
    let k = c.requires.4.place in
    (rw k (listed_record t (sender_of m) c.requires.1).inside, k ∙ sym (ap (λ a. customer_of a.table (sender_of m)) c.handle_message-r.ensures ∙ record_same t s m (rule_answer t s m) (sender_of m)))

pub returns : goal.returns
returns c =
    settled_kept (table_of c.args.t.now) c.args.msg.now c.args.reply.now c.args.m _ _ _ _ (sym c.is_late_message.ensures ∙ c.if-is_late_message.false) c.handle_message-r.ensures c.keep_message_id.ensures
