-- `addresses` meets its contract: after `k` turns the first `k` are stored.
use mathlib.Core.Path.{◌≡◌}
use lib.ListN.{get_or}
use Rattle.lists.proofs.Filled.{filled}
use Rattle.table.specs.Lists.{customer_at}
use Rattle.table.specs.Words.{table_of}
use Rattle.rule_limits.proofs.addresses.Given as goal

abbrev pub invariant-loop-k : goal.invariant-loop-k
invariant-loop-k l = l.a ≡ filled (λ j. (customer_at (table_of l.t) j).address) (λ j. get_or l.initial.a j 0) 8 l.k
