-- `choosing::is_best` meets its contract: the walk has come to place `e - 1`, and has met no better record. The loop does
-- not use the factors: its invariant says that there are some.
use mathlib.Core.Path.{◌≡◌}
use lib.ListN.{get_or}
use Rattle.checkpoint_chains.specs.declared.Factors.{Factors}
use Rattle.checkpoint_choice.specs.LongChain.{LongChains}
use Rattle.checkpoint_choice.proofs.LongWalk.{Walked}
use Rattle.checkpoint_choice.proofs.choosing.is_best.Given as goal

abbrev pub invariant-loop-e : goal.invariant-loop-e
invariant-loop-e l =
    (get_or l.sound l.i 0 ≡ 1) × ((f : Factors) × LongChains f l.c.bytes.now l.sound l.heads l.links l.c.calls × Walked f l.c.bytes.now l.sound l.named l.c.calls l.i l.e)

abbrev pub decreases-loop-e : goal.decreases-loop-e
decreases-loop-e l = l.e
