-- `shares_hold` meets its contract: the calls of listed senders are all calls where every sender is listed.
use mathlib.Core.Path.{ap, ◌∙◌}
use Rattle.table.specs.Lists.{roster, entries}
use Rattle.table.specs.Words.{table_of}
use Rattle.table.proofs.Addresses.{roster_apart}
use Rattle.rule_limits.proofs.Senders.{known_all}
use Rattle.table.specs.Total.{total_for}
use Rattle.rule_limits.proofs.shares_hold.Goals as goal

pub returns : goal.returns
returns c =
    let s = c.share_sums-s.ensures in
    let t = table_of c.args.t.now in
    let total = c.total_for.ensures.0 ∙ ap total_for c.form.ensures in
    rw (s.0, s.1, s.2, known_all (roster t) (roster_apart t c.requires.0) (entries t) _ c.open_calls.ensures, total)
