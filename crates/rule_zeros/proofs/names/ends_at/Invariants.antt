-- `names::ends_at` meets its contract: of the words passed, the bytes past the name are zero, and one from its last byte
-- on is not.
use Prim.Native.Nat.{◌*◌, ◌-◌}
use mathlib.Core.Path.{◌≡◌}
use mathlib.Core.Bool.{not}
use Rattle.numbers.specs.Search.{zeros_at}
use Rattle.table.specs.Lists.{call_at}
use Rattle.table.specs.Words.{table_of}
use Rattle.rule_zeros.proofs.names.ends_at.Given as goal

abbrev pub invariant-loop-k : goal.invariant-loop-k
invariant-loop-k l =
    (l.clear ≡ zeros_at (call_at (table_of l.t) l.i).name l.size (4 * l.k - l.size))
    × (l.ends ≡ not (zeros_at (call_at (table_of l.t) l.i).name l.last (4 * l.k - l.last)))
