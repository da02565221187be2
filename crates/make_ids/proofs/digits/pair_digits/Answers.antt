-- `digits::pair_digits` meets its contract.
use mathlib.Core.Path.{ap₂, ◌∙◌}
use mathlib.Core.List.{◌++◌}
use Rattle.make_ids.proofs.HexDigits.{eight_digits}
use Rattle.make_ids.proofs.digits.pair_digits.Goals as goal

pub returns : goal.returns
returns c =
    let a = c.args in
    record {
      of_sender = ap₂ ◌++◌ c.four_digits.ensures c.four_digits-2.ensures ∙ eight_digits a.sender;
      of_endpoint = ap₂ ◌++◌ c.four_digits-3.ensures c.four_digits-4.ensures ∙ eight_digits a.endpoint;
    }
