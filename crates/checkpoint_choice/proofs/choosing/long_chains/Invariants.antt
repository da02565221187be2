-- `choosing::long_chains` meets its contract: after `k` turns those of the last `k` records that are sound stand in their
-- chains.
use mathlib.Core.Path.{◌≡◌}
use lib.ListN.{length}
use Rattle.lists.specs.Chain.{InChains}
use Rattle.checkpoint_choice.specs.LongChain.{chain_at}
use Rattle.checkpoint_choice.proofs.LongWalk.{sound_at}
use Rattle.checkpoint_choice.proofs.choosing.long_chains.Given as goal

abbrev pub invariant-loop-k : goal.invariant-loop-k
invariant-loop-k l =
    (length l.heads ≡ 1024) × InChains (sound_at l.sound l.c.calls) (chain_at l.f l.c.bytes.now l.c.calls) l.heads l.links l.k
