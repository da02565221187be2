-- `apart_from_earlier` meets its contract: after `j` turns it has looked at the first `j` slots.
use mathlib.Core.Path.{◌≡◌}
use Rattle.lists.specs.Below.{every_below}
use Rattle.table.specs.Words.{table_of}
use Rattle.rule_uniqueness.specs.Conflict.{apart_at}
use Rattle.rule_uniqueness.proofs.apart_from_earlier.Given as goal

abbrev pub invariant-loop-j : goal.invariant-loop-j
invariant-loop-j l = l.apart ≡ every_below (apart_at (table_of l.t) l.i) l.j
