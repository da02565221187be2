-- `slots_within_total` meets its contract: every used slot is within the total where the last one is.
use mathlib.Core.Path.{ap, ap₂, ◌∙◌}
use lib.Dec.{leb}
use Rattle.table.specs.Total.{total_for, total_of}
use Rattle.table.specs.Word.{bits, is_used}
use Rattle.table.specs.Words.{table_of}
use Rattle.lists.proofs.Chain.{last_bound}
use Rattle.rule_limits.proofs.slots_within_total.Goals as goal

pub returns : goal.returns
returns c =
    let t = table_of c.args.t.now in
    ap₂ leb c.marked_below.ensures (c.total_for.ensures.0 ∙ ap total_for c.form.ensures) ∙ last_bound (is_used t.occupied) bits (total_of t)
