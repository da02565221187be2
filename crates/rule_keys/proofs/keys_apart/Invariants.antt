-- `keys_apart` meets its contract: each turn notes the keys of its slot, or of its customer, behind those before.
use Prim.Native.Nat.{◌+◌, ◌*◌, ◌≤◌}
use mathlib.Core.Path.{◌≡◌}
use mathlib.Core.List.{◌++◌}
use lib.Dec.{ltb}
use Rattle.lists.specs.Below.{list_if, below}
use Rattle.table.specs.Total.{slots}
use Rattle.table.specs.Lists.{customer_at, customer_four, held_in}
use Rattle.table.specs.Words.{table_of}
use Rattle.rule_keys.specs.Keys.{held_keys, call_keys_at}
use Rattle.rule_keys.specs.Noted.{noted_keys}
use Rattle.rule_keys.proofs.keys_apart.Given as goal

abbrev pub invariant-loop-i : goal.invariant-loop-i
invariant-loop-i l = (noted_keys l.noted ≡ below (call_keys_at (table_of l.t)) l.i) × (l.noted.count ≤ 7 * l.i)

abbrev pub invariant-loop-k : goal.invariant-loop-k
invariant-loop-k l =
    (noted_keys l.noted ≡ below (call_keys_at (table_of l.t)) slots ++ below (λ j. list_if (ltb j l.listed) (held_keys (held_in (customer_four (customer_at (table_of l.t) j))))) l.k)
    × (l.noted.count ≤ 1400 + 4 * l.k)
