-- `ids_once` meets its contract: after `i` turns the calls in the first `i` slots are apart, and no slot from the last
-- used one on has a call.
use mathlib.Core.Path.{◌≡◌}
use Rattle.lists.specs.Pairs.{pairs_below}
use Rattle.table.specs.Words.{table_of}
use Rattle.rule_uniqueness.specs.Conflict.{apart_at}
use Rattle.rule_uniqueness.proofs.ids_once.Given as goal

abbrev pub invariant-loop-i : goal.invariant-loop-i
invariant-loop-i l = l.apart ≡ pairs_below (apart_at (table_of l.t)) l.i
