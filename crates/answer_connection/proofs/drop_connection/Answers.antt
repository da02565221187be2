-- `drop_connection`: the connection stands under a call, with a customer, or nowhere.
use mathlib.Core.List.{[]}
use mathlib.Core.Path.{refl, ◌∙◌}
use mathlib.Core.Bool.{true, false}
use Rattle.messages.specs.declared.message.Message.TheVariants.{Drop}
use Rattle.table.specs.Lists.{held}
use Rattle.table.specs.Words.{table_of}
use Rattle.answers.specs.declared.answer.Answer.TheVariants.{ConnectionRemoved, NotHeld}
use Rattle.spec_calls.specs.PathRules.{lsp_of}
use Rattle.spec_calls.proofs.Decided.{drop_held, drop_not_held}
use Rattle.spec_changes.proofs.Tables.{removed_under_lem, removed_standalone_lem}
use Rattle.find_connection.proofs.Looks.{under_here, under_none, under_is_held, standalone_here, standalone_none, held_else}
use Rattle.outcomes.proofs.Unanswered.{ruled_quiet}
use Rattle.answer_connection.proofs.drop_connection.Goals as goal

pub remove_under-requires : goal.remove_under-requires
remove_under-requires c = let h = under_here _ _ _ c.in-Some.ensures in (h.inside, h.held)

pub returns-in-Some : goal.returns-in-Some
returns-in-Some c =
    let t = table_of c.args.t.now in
    let x = lsp_of c.args.c.lsp in
    let h = under_here t x _ c.in-Some.ensures in
    ruled_quiet t [] _ (Drop c.args.c) ConnectionRemoved _ _ (drop_held (held t) x (under_is_held t x _ c.in-Some.ensures))
    c.unanswered.ensures (c.remove_under.ensures ∙ removed_under_lem t x _ h.some h.place) refl

pub remove_standalone-requires : goal.remove_standalone-requires
remove_standalone-requires c = let h = standalone_here _ _ _ c.in-Some-find_standalone.ensures in (h.inside, h.held)

pub returns-in-Some-find_standalone : goal.returns-in-Some-find_standalone
returns-in-Some-find_standalone c =
    let t = table_of c.args.t.now in
    let x = lsp_of c.args.c.lsp in
    let h = standalone_here t x _ c.in-Some-find_standalone.ensures in
    ruled_quiet t [] _ (Drop c.args.c) ConnectionRemoved _ _ (drop_held (held t) x (held_else t x true c.in_default.ensures h.some))
    c.unanswered-in-Some-find_standalone.ensures (c.remove_standalone.ensures ∙ removed_standalone_lem t x _ (under_none t x c.in_default.ensures) h.place) refl

pub returns : goal.returns
returns c =
    let t = table_of c.args.t.now in
    let x = lsp_of c.args.c.lsp in
    ruled_quiet t [] _ (Drop c.args.c) NotHeld t _
    (drop_not_held (held t) x (held_else t x false c.in_default.ensures (standalone_none t x c.in_default-find_standalone.ensures)))
    c.unanswered-2.ensures refl refl
