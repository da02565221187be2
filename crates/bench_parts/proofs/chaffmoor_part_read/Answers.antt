-- `chaffmoor_part_read` meets its contract: the number of what was read.
use mathlib.Core.Path.{◌∙◌, ap}
use Rattle.bench_parts.specs.Number.{read_number}
use Rattle.bench_parts.proofs.chaffmoor_part_read.Goals as goal

pub returns : goal.returns
returns c = c.read_number.ensures ∙ ap read_number c.read.ensures
