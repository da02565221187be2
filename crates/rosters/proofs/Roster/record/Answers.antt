-- `Roster::record` meets its contract: the record's numbers are the callees'.
use native.Mathlib.Omega.{arith}
use mathlib.Core.Path.{ap₂, ◌∙◌}
use Rattle.table.specs.Roster.{guarantee_in, limit_in, spare_in}
use Rattle.rosters.proofs.Roster.record.Goals as goal

pub returns : goal.returns
returns c =
    let shares = c.get16-shares.ensures in
    let form = c.args.self.now.form_is in (
      c.get32.ensures,
      c.from.ensures ∙ c.guarantee_in.ensures.0 ∙ ap₂ guarantee_in form shares,
      c.from-2.ensures ∙ c.limit_in.ensures ∙ ap₂ limit_in form shares,
      c.spare_in.ensures ∙ ap₂ spare_in form shares,
      omega (arith, c.guarantee_in.ensures.1, c.from.ensures),
    )
