-- `words::zero_words` meets its contract: the words joined so far are zero where each of them is.
use Prim.Native.Nat.{◌+◌}
use mathlib.Core.Path.{◌≡◌}
use lib.Dec.{eqb}
use lib.ListN.{get_or}
use Rattle.lists.specs.Below.{every_below}
use Rattle.table_words.proofs.words.zero_words.Given as goal

abbrev pub invariant-loop-k : goal.invariant-loop-k
invariant-loop-k l = eqb l.joined 0 ≡ every_below (λ k. eqb (get_or l.t (l.b + k) 0) 0) l.k
