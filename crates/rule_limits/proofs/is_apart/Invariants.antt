-- `is_apart` meets its contract: each turn compares the address with one more before it.
use mathlib.Core.Path.{◌≡◌}
use Rattle.lists.specs.Below.{every_below}
use Rattle.table.specs.Words.{table_of}
use Rattle.rule_limits.specs.Apart.{other_address}
use Rattle.rule_limits.proofs.is_apart.Given as goal

abbrev pub invariant-loop-j : goal.invariant-loop-j
invariant-loop-j l = l.apart ≡ every_below (other_address (table_of l.t) l.k) l.j
