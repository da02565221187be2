-- Where numbers stand.
-- Assumes nothing.
use Rattle.std.proofs.Common.{ℕ, ◌<◌, arith}
use Rattle.checkpoint_chains.specs.declared.Factors.{Factors}
use Rattle.checkpoint_chains.specs.Spread.{turned, stirred_with, mixed_four, spread_over}

pub stirred_below : (factor sum x : ℕ) → stirred_with factor sum x < 4294967296
unfolding stirred_with turned
stirred_below factor sum x = omega arith

pub spread_within : (f : Factors) (a b c d : ℕ) → spread_over f a b c d < 2048
unfolding spread_over
spread_within f a b c d = (let small = stirred_below f.third (stirred_with f.first (mixed_four f a b c d) 0) 0 in omega arith)
