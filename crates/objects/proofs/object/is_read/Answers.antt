-- `object::is_read` meets its contract: its tests are those of the search, grouped the other way.
use mathlib.Core.Bool.{or_assoc, or-false}
use Rattle.numbers.specs.Search.{is_in}
use Rattle.objects.proofs.object.is_read.Goals as goal

pub returns : goal.returns
unfolding is_in
returns c = simp (or_assoc, or-false)
