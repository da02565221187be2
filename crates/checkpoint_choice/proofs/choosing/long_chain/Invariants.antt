-- `choosing::long_chain` meets its contract: what is mixed so far, with the rest of the name, gives the whole.
use mathlib.Core.Path.{◌≡◌}
use lib.ListN.{drop}
use Rattle.checkpoint_choice.specs.LongChain.{long_mixed}
use Rattle.checkpoint_choice.proofs.choosing.long_chain.Given as goal

abbrev pub invariant-loop-b : goal.invariant-loop-b
invariant-loop-b l = long_mixed l.f l.sum (drop l.b-index l.name) ≡ long_mixed l.f 0 l.name
