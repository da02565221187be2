-- `count_calls` meets its contract: after `i` turns the calls of the first `i` slots are counted.
use mathlib.Core.Path.{◌≡◌}
use Rattle.lists.specs.Below.{below}
use Rattle.table.specs.Lists.{open_at}
use Rattle.table.specs.Words.{table_of}
use Rattle.rule_limits.specs.Tally.{calls_each}
use Rattle.rule_limits.proofs.count_calls.Given as goal

abbrev pub invariant-loop-i : goal.invariant-loop-i
invariant-loop-i l = l.counts ≡ calls_each (table_of l.t) (below (open_at (table_of l.t)) l.i)
