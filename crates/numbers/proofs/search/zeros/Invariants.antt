-- `search::zeros` meets its contract: what is left to test answers as the whole part does.
use Rattle.std.proofs.Common.{◌≡◌, ◌+◌, ◌-◌}
use Rattle.numbers.specs.Search.{zeros_at}
use Rattle.numbers.proofs.search.zeros.Given as goal

abbrev pub invariant-loop-i : goal.invariant-loop-i
invariant-loop-i l = zeros_at l.s l.i (l.at + l.n - l.i) ≡ zeros_at l.s l.at l.n
