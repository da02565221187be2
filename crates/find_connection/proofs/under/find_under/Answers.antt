-- `under::find_under` meets its contract.
use Rattle.std.proofs.Common.{sym, refl, ◌∙◌, rules, arith}
use Rattle.std.proofs.lemmas.Iterator.{YieldsList-from_range}
use Rattle.std.proofs.lemmas.Iterator.Search.{find_from_yields_List}
use Rattle.std.proofs.lemmas.Iterator.Adapters.{option_map_id}
use Rattle.lists.specs.Count.{has}
use Rattle.table.specs.Total.{slots}
use Rattle.table.specs.Lists.{held_at}
use Rattle.table.specs.Rules.{is_lsp}
use Rattle.table.specs.Words.{table_of}
use Rattle.table.proofs.Slots.{held_rest, held_free}
use Rattle.lists.proofs.Search.{place_rest}
use Rattle.spec_changes.proofs.Firsts.{find_place}
use Rattle.spec_calls.specs.PathRules.{lsp_of}
use Rattle.find_connection.specs.Looks.{under_found_of}
use Rattle.find_connection.proofs.under.find_under.Goals as goal

pub returns : goal.returns
unfolding under_found_of
returns c =
    let t = table_of c.args.t.now in
    let f = held_at t in
    let p = is_lsp (lsp_of c.args.x) in
    let n = c.used_below in
    sym (option_map_id _) ∙ find_from_yields_List (λ k. has p (f k)) _ _ c.find.result c.find.ensures.ran (YieldsList-from_range 0 n.result n.result refl (omega arith)) (λ x b q k. search rules)
    ∙ find_place f p (λ i. has p (f i)) (λ i. refl) n.result
    ∙ rw (held_rest t n.result n.ensures.0 n.ensures.1, place_rest f p n.result slots n.ensures.0 (held_free t n.result n.ensures.1))
