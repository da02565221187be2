-- `place_with` meets its contract.
use Rattle.std.proofs.Common.{ℕ, ◌&&◌, sym, refl, ap, ◌∙◌, rules, arith}
use Rattle.std.specs.Option.{unwrap_or}
use Rattle.std.proofs.lemmas.Iterator.{YieldsList-from_range}
use Rattle.std.proofs.lemmas.Iterator.Search.{find_from_yields_List}
use Rattle.std.proofs.lemmas.Iterator.Adapters.{option_map_id}
use Rattle.lists.proofs.Below.{has_element}
use Rattle.table.specs.Lists.{place_at, is_taken, connection_at, held_place}
use Rattle.table.specs.Rules.{is_lsp}
use Rattle.table_words.specs.Fours.{four_at_word}
use Rattle.spec_changes.proofs.Firsts.{find_place, place_or, place_below}
use Rattle.spec_calls.specs.PathRules.{lsp_of}
use Rattle.update_connection.proofs.place_with.Goals as goal

pub returns : goal.returns
returns c =
    let z = c.args in
    let f = four_at_word z.t.now z.f in
    let p = is_lsp (lsp_of z.x) in
    let here = λ (j : ℕ). is_taken (place_at f j) && p (connection_at f j) in
    let e = sym (option_map_id _) ∙ find_from_yields_List here _ _ c.find.result c.find.ensures.ran (YieldsList-from_range 0 4 4 refl refl) (λ x b q k. search rules) ∙ find_place (held_place f) p here (λ j. sym (has_element p _ _)) 4 in
    let r = c.unwrap_or.ensures ∙ ap (λ o. unwrap_or o 0) e ∙ place_or (held_place f) p 4 in
    (r, rw r (place_below (held_place f) p 4 (omega arith)))
