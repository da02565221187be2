-- `skip` ends: fewer bytes are left.
use Rattle.restore.proofs.skip.Given as goal

abbrev pub decreases-loop-left : goal.decreases-loop-left
decreases-loop-left g l = l.left
