-- `calls::is_named` meets its contract: the words compared so far are the same.
use Prim.Native.Nat.{◌+◌}
use mathlib.Core.Path.{◌≡◌}
use lib.Dec.{eqb}
use lib.ListN.{get_or}
use Rattle.lists.specs.Below.{every_below}
use Rattle.table_words.proofs.calls.is_named.Given as goal

abbrev pub invariant-loop-k : goal.invariant-loop-k
invariant-loop-k l = l.same ≡ every_below (λ k. eqb (get_or l.name (0 + k) 0) (get_or l.t (l.b + k) 0)) l.k
