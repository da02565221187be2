-- `walk::walk` meets its contract: at each turn it has come to a place (`Walking`), behind one object more or behind a
-- run. Each object read took four bytes or more, so the counts fit.
use Prim.Native.Nat.{◌-◌}
use lib.ListN.{length}
use Rattle.objects.proofs.Steps.{Walking}
use Rattle.objects.proofs.walk.walk.Given as goal

abbrev pub invariant-loop-o : goal.invariant-loop-o
invariant-loop-o l = Walking l.s l.seen l.at

abbrev pub decreases-loop-o : goal.decreases-loop-o
decreases-loop-o l = length l.s - l.at
