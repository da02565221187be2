-- `read::path_complete` meets its contract, by what `path_complete` says.
use mathlib.Core.Path.{refl}
use Rattle.messages.specs.Counts.{path_complete}
use Rattle.messages.proofs.read.path_complete.Goals as goal

pub returns : goal.returns
unfolding path_complete
returns c = refl
