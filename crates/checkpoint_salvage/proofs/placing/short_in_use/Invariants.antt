-- `placing::short_in_use` meets its contract: after `i` turns it has asked the first `i` slots.
use Prim.Native.Nat.{ℕ}
use mathlib.Core.Path.{◌≡◌}
use mathlib.Core.List.{List}
use Rattle.lists.specs.Below.{below}
use Rattle.table.specs.Lists.{Ids, open_at}
use Rattle.table.specs.Words.{table_of}
use Rattle.spec_calls.specs.CallRules.{short_in_use}
use Rattle.checkpoint_salvage.proofs.placing.short_in_use.Given as goal

abbrev pub asked : ℕ → ℕ → ℕ → List ℕ → Ids
asked endpoint sender id long = record { endpoint = endpoint; sender = sender; short = id; long = long }

abbrev pub invariant-loop-i : goal.invariant-loop-i
invariant-loop-i l = (long : List ℕ) → l.found ≡ short_in_use (below (open_at (table_of l.t)) l.i) (asked l.endpoint l.sender l.id.0 long)
