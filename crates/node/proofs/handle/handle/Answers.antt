-- `handle`: a table that breaks a rule is answered 1, a buffer that is too short 2; any other message goes on after the
-- closings.
use mathlib.Core.Path.{sym, ap, ◌∙◌}
use borrow.Author.Tests.{not-false}
use borrow.Author.Rules.{rules}
use Rattle.table.specs.Rules.{rules_hold}
use Rattle.table.specs.Words.{table_of}
use Rattle.answers.specs.declared.answer.Answer.TheVariants.{TableBroken, BufferTooSmall}
use Rattle.outcomes.proofs.Handled.{handled_broken, handled_small}
use Rattle.node.proofs.Handed.{handed_at_once, elapsed_rules, handed_elapsed}
use mathlib.Core.Bool.{not}
use Rattle.node.proofs.handle.handle.Goals as goal

pub returns-then-not-rules_hold : goal.returns-then-not-rules_hold
returns-then-not-rules_hold c =
    let a = c.args in
    handed_at_once _ (table_of a.t.now) _ _ TableBroken _ (handled_broken (table_of a.t.now) _ _ a.at a.period (sym c.rules_hold.ensures ∙ c.if-not-rules_hold.true)) c.at_once.ensures

pub returns-then-reply-lt-LEAST_BUFFER : goal.returns-then-reply-lt-LEAST_BUFFER
returns-then-reply-lt-LEAST_BUFFER c =
    let a = c.args in
    handed_at_once _ (table_of a.t.now) _ _ BufferTooSmall _
    (handled_small (table_of a.t.now) _ _ a.at a.period (sym c.rules_hold.ensures ∙ c.if-not-rules_hold.false) (search rules)) c.at_once-then-reply-lt-LEAST_BUFFER.ensures

pub handle_checked-r-requires : goal.handle_checked-r-requires
handle_checked-r-requires c =
    let a = c.args in
    (ap rules_hold c.elapse-closed.ensures.1 ∙ elapsed_rules a.t.now a.at a.period (sym c.rules_hold.ensures ∙ c.if-not-rules_hold.false), search rules)

pub returns : goal.returns
returns c =
    let a = c.args in
    handed_elapsed (table_of a.t.now) _ _ a.msg.now a.reply.now _ a.at a.period c.elapse-closed.result c.handle_checked-r.result _ _ (sym c.rules_hold.ensures ∙ not-false c.rules_hold.result (ap not c.if-not-rules_hold.false)) (search rules) c.elapse-closed.ensures.0 c.elapse-closed.ensures.1
    c.elapse-closed.ensures.2 c.handle_checked-r.ensures
