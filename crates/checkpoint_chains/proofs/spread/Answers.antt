-- `spread` meets its contract.
use Rattle.checkpoint_chains.specs.Spread.{mixed_four, spread_over}
use Rattle.std.proofs.Common.{arith}
use Rattle.checkpoint_chains.proofs.spread.Goals as goal

pub returns : goal.returns
unfolding spread_over mixed_four
returns c =
    (rw (c.stirred-last.ensures, c.stirred-3.ensures, c.stirred-four.ensures, c.stirred-2.ensures, c.stirred-two.ensures, c.stirred.ensures), omega arith)
