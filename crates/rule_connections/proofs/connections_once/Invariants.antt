-- `connections_once` meets its contract: after `k` turns it has looked at the first `k` customers.
use mathlib.Core.Path.{◌≡◌}
use mathlib.Core.Bool.{not, ◌||◌}
use lib.Dec.{ltb}
use Rattle.lists.specs.Count.{no_two}
use Rattle.lists.specs.Below.{every_below}
use Rattle.table.specs.Rules.{same_connection}
use Rattle.table.specs.Words.{table_of}
use Rattle.rule_connections.specs.Own.{own}
use Rattle.rule_connections.proofs.connections_once.Given as goal

abbrev pub invariant-loop-k : goal.invariant-loop-k
invariant-loop-k l =
    l.once ≡ every_below (λ k. not (ltb k l.listed) || no_two same_connection (own (table_of l.t) k)) l.k
