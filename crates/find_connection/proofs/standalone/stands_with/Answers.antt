-- `standalone::stands_with` meets its contract.
use Rattle.std.proofs.Common.{sym, ◌∙◌, ltb}
use Rattle.lists.proofs.Below.{has_list_if}
use Rattle.table.specs.Lists.{customer_at, customer_four, held_in}
use Rattle.table.specs.Rules.{is_lsp}
use Rattle.table.specs.Words.{table_of}
use Rattle.table_words.proofs.Alike.{alike_held}
use Rattle.spec_calls.specs.PathRules.{lsp_of}
use Rattle.find_connection.proofs.standalone.stands_with.Goals as goal

pub returns : goal.returns
returns c =
    let t = table_of c.args.t.now in
    let four = customer_four (customer_at t c.args.k) in
    c.holds.ensures ∙ rw (c.requires.1, alike_held _ four c.customer_four.ensures) (sym (has_list_if (is_lsp (lsp_of c.args.x)) (ltb c.args.k t.listed) (held_in four)))
