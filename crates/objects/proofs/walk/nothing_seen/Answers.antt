-- `walk::nothing_seen` meets its contract, by what `objects_of` says of no objects.
use mathlib.Core.Path.{refl}
use Rattle.objects.specs.Walk.{seen, objects_of}
use Rattle.objects.proofs.walk.nothing_seen.Goals as goal

pub returns : goal.returns
unfolding seen objects_of
returns c = refl
