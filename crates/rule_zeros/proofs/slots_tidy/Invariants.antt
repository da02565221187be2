-- `slots_tidy` meets its contract: each turn adds its slot's tests, and the slots past the last used one are free.
use mathlib.Core.Path.{◌≡◌}
use Rattle.lists.specs.Below.{every_below}
use Rattle.table.specs.Words.{table_of}
use Rattle.rule_zeros.proofs.Free.{slot_tidy}
use Rattle.rule_zeros.proofs.slots_tidy.Given as goal

abbrev pub invariant-loop-i : goal.invariant-loop-i
invariant-loop-i l = l.tidy ≡ every_below (slot_tidy (table_of l.t)) l.i
