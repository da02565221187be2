-- `keys::name_sum` meets its contract.
use borrow.Author.Rules.{rules}
use Rattle.rule_keys.specs.Keys.{name_sum}
use Rattle.rule_keys.proofs.keys.name_sum.Goals as goal

pub returns : goal.returns
unfolding name_sum
returns c = search rules
