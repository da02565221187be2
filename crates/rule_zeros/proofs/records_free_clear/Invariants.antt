-- `records_free_clear` meets its contract: each turn adds its record's test.
use mathlib.Core.Path.{◌≡◌}
use Rattle.lists.specs.Below.{every_below}
use Rattle.table.specs.Rules.{record_free_clear}
use Rattle.table.specs.Words.{table_of}
use Rattle.rule_zeros.proofs.records_free_clear.Given as goal

abbrev pub invariant-loop-k : goal.invariant-loop-k
invariant-loop-k l = l.clear ≡ every_below (record_free_clear (table_of l.t)) l.k
