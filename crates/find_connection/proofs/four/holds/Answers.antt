-- `four::holds` meets its contract.
use Rattle.std.proofs.Common.{ℕ, ◌&&◌, sym, refl, ap, ◌∙◌, rules}
use mathlib.Core.Bool.{not}
use Rattle.std.proofs.lemmas.Iterator.{YieldsList-from_range}
use Rattle.std.proofs.lemmas.Iterator.Search.{any_from_yields_List}
use Rattle.lists.proofs.Below.{has_element}
use Rattle.table.specs.Lists.{place_at, is_taken, connection_at, held_place}
use Rattle.table.specs.Rules.{is_lsp}
use Rattle.table_words.specs.Fours.{four_at_word}
use Rattle.spec_changes.proofs.Firsts.{any_place}
use Rattle.spec_calls.specs.PathRules.{lsp_of}
use Rattle.find_connection.proofs.Match.{held_none, held_all}
use Rattle.find_connection.proofs.four.holds.Goals as goal

pub returns-then-not-used-x : goal.returns-then-not-used-x
returns-then-not-used-x c =
    let z = c.args in
    held_none (lsp_of z.x) (four_at_word z.t.now z.f) z.used (ap not c.if-not-used-x.true)

pub returns : goal.returns
returns c =
    let z = c.args in
    let f = four_at_word z.t.now z.f in
    let p = is_lsp (lsp_of z.x) in
    let here = λ (j : ℕ). is_taken (place_at f j) && p (connection_at f j) in
    held_all (lsp_of z.x) f z.used _ (ap not c.if-not-used-x.false)
    (any_from_yields_List here _ _ _ c.any.ensures.ran (YieldsList-from_range 0 4 4 refl refl) (λ x b q k. search rules) ∙ any_place (held_place f) p here (λ j. sym (has_element p _ _)) 4)
