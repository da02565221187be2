-- `call_tidy` meets its contract, by what `valid_ids` and `call_free_clear` say.
use mathlib.Core.Path.{ap, ◌∙◌}
use mathlib.Core.Bool.{◌&&◌}
use lib.Dec.{leb}
use Rattle.table.specs.Lists.{call_at}
use Rattle.table.specs.Rules.{call_free_clear}
use Rattle.table.specs.Words.{table_of}
use Rattle.table_words.proofs.Alike.{alike_valid}
use Rattle.rule_zeros.proofs.Free.{some_size, no_ids, tidy_by_head}
use Rattle.rule_zeros.proofs.call_tidy.Goals as goal

pub returns-then-c : goal.returns-then-c
returns-then-c c =
    let a = c.args in
    let k = call_at (table_of a.t.now) a.i in
    ap (λ b. b && leb k.refreshed a.time && call_free_clear k) (no_ids _ _ c.call_head-c.ensures c.if-c.true)

pub ends_at-requires : goal.ends_at-requires
ends_at-requires c =
    let size = some_size _ c.if-c.false in
    (c.requires, size.0, size.1)

pub returns : goal.returns
returns c =
    tidy_by_head _ _ c.call_head-c.ensures c.args.time _ _ _ _ c.if-c.false c.is_call_id.ensures c.ends_at.ensures c.request_tidy.ensures
    (c.four_valid.ensures ∙ alike_valid _ _ c.call_four.ensures)
