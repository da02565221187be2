-- `under::stands_under` meets its contract.
use Rattle.std.proofs.Common.{sym, ◌∙◌}
use Rattle.lists.proofs.Below.{has_list_if}
use Rattle.table.specs.Word.{is_used}
use Rattle.table.specs.Lists.{call_at, call_four, held_in}
use Rattle.table.specs.Rules.{is_lsp}
use Rattle.table.specs.Words.{table_of}
use Rattle.table_words.proofs.Alike.{alike_held}
use Rattle.spec_calls.specs.PathRules.{lsp_of}
use Rattle.find_connection.proofs.under.stands_under.Goals as goal

pub returns : goal.returns
returns c =
    let t = table_of c.args.t.now in
    let four = call_four (call_at t c.args.i) in
    c.holds.ensures ∙ rw (c.is_used.ensures, alike_held _ four c.call_four.ensures) (sym (has_list_if (is_lsp (lsp_of c.args.x)) (is_used t.occupied c.args.i) (held_in four)))
