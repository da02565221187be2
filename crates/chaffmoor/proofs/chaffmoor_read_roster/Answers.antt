-- `chaffmoor_read_roster`: what `read_roster` gives, with the answer's number.
use Rattle.table.specs.Roster.{roster_number}
use mathlib.Core.Path.{ap, ◌∙◌}
use Rattle.chaffmoor.proofs.chaffmoor_read_roster.Goals as goal

pub returns : goal.returns
returns c =
    let e = c.read_roster.ensures in
    (c.roster_number.ensures ∙ ap roster_number e.0, e.1)
