-- `open_calls` meets its contract: the ones are the calls.
use mathlib.Core.Path.{◌∙◌}
use Rattle.table.specs.Words.{table_of}
use Rattle.table.proofs.Ones.{ones_calls}
use Rattle.table.proofs.Within.{none_outside}
use Rattle.occupancy.proofs.open_calls.Goals as goal

pub returns : goal.returns
returns c =
    let t = table_of c.args.t.now in
    c.count_used.ensures.0 ∙ ones_calls t c.count_used.ensures.1 (none_outside t c.requires)
