-- `walk::run_of` meets its contract: each turn adds one object to the run, and a place below the message's end has had
-- more bytes than turns.
use Prim.Native.Nat.{◌+◌, ◌-◌, ◌*◌, ◌≤◌}
use mathlib.Core.Bool.{true}
use mathlib.Core.Path.{◌≡◌}
use lib.ListN.{length}
use Rattle.objects.specs.Run.{all_like}
use Rattle.objects.proofs.walk.run_of.Given as goal

abbrev pub invariant-loop-o : goal.invariant-loop-o
invariant-loop-o l = (l.at ≡ l.from + l.more * l.o.len) × (l.at ≤ length l.s) × (l.more ≤ l.at) × (all_like l.s l.from l.o l.more ≡ true)

abbrev pub decreases-loop-o : goal.decreases-loop-o
decreases-loop-o l = length l.s - l.at
