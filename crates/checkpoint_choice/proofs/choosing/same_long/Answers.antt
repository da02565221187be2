-- `choosing::same_long` meets its contract: the names are compared where the pair is the same.
use mathlib.Core.Path.{◌∙◌}
use Rattle.table.specs.Rules.{same_long}
use Rattle.checkpoint_choice.proofs.SamePointwise.{same_pointwise}
use Rattle.checkpoint_choice.proofs.choosing.same_long.Goals as goal

pub returns-then-pair : goal.returns-then-pair
unfolding same_long
returns-then-pair c =
    let same = rw (c.endpoint.ensures, c.endpoint-2.ensures, c.sender.ensures, c.sender-2.ensures) at c.if-pair.true in
    rw (same, ← c.name.ensures, ← c.name-then-pair.ensures) (c.eq.ensures ∙ same_pointwise c.name.result.now c.name-then-pair.result.now)

pub returns-else-pair : goal.returns-else-pair
unfolding same_long
returns-else-pair c =
    let other = rw (c.endpoint.ensures, c.endpoint-2.ensures, c.sender.ensures, c.sender-2.ensures) at c.if-pair.false in
    rw (c.if-pair.false, other)
