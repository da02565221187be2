-- `search::unpadded` meets its contract: what has been passed from the end on is zeros, so that the rest counts as the
-- whole does.
use Rattle.std.proofs.Common.{◌≡◌}
use Rattle.numbers.specs.Search.{unpadded}
use Rattle.numbers.proofs.search.unpadded.Given as goal

abbrev pub invariant-loop-k : goal.invariant-loop-k
invariant-loop-k l = unpadded l.s l.at l.k ≡ unpadded l.s l.at l.n
