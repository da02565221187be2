-- `read::notify_complete` meets its contract, by what `notify_complete` says.
use mathlib.Core.Path.{refl}
use Rattle.messages.specs.Counts.{notify_complete}
use Rattle.messages.proofs.read.notify_complete.Goals as goal

pub returns : goal.returns
unfolding notify_complete
returns c = refl
