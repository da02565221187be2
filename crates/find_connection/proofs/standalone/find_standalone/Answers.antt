-- `standalone::find_standalone` meets its contract.
use Rattle.std.proofs.Common.{sym, refl, ◌∙◌, rules}
use Rattle.std.proofs.lemmas.Iterator.{YieldsList-from_range}
use Rattle.std.proofs.lemmas.Iterator.Search.{find_from_yields_List}
use Rattle.std.proofs.lemmas.Iterator.Adapters.{option_map_id}
use Rattle.lists.specs.Count.{has}
use Rattle.table.specs.Lists.{standalone_at}
use Rattle.table.specs.Rules.{is_lsp}
use Rattle.table.specs.Words.{table_of}
use Rattle.spec_changes.proofs.Firsts.{find_place}
use Rattle.spec_calls.specs.PathRules.{lsp_of}
use Rattle.find_connection.specs.Looks.{standalone_found_of}
use Rattle.find_connection.proofs.standalone.find_standalone.Goals as goal

pub returns : goal.returns
unfolding standalone_found_of
returns c =
    let f = standalone_at (table_of c.args.t.now) in
    let p = is_lsp (lsp_of c.args.x) in
    sym (option_map_id _) ∙ find_from_yields_List (λ k. has p (f k)) _ _ c.find.result c.find.ensures.ran (YieldsList-from_range 0 8 8 refl refl) (λ x b q k. search rules) ∙ find_place f p (λ k. has p (f k)) (λ k. refl) 8
