-- `taken_in` meets its contract: each turn adds its place.
use Prim.Native.Nat.{◌≤◌}
use mathlib.Core.Path.{◌≡◌}
use mathlib.Core.Bool.{true}
use Rattle.lists.specs.Count.{count_if}
use Rattle.lists.specs.Below.{below}
use Rattle.table.specs.Lists.{held_place}
use Rattle.table_words.specs.Fours.{four_at_word}
use Rattle.fours.proofs.taken_in.Given as goal

abbrev pub invariant-loop-j : goal.invariant-loop-j
invariant-loop-j l = (l.n ≡ count_if (λ x. true) (below (held_place (four_at_word l.t l.f)) l.j)) × (l.n ≤ l.j)
