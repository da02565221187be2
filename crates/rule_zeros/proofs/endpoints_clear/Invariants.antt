-- `endpoints_clear` meets its contract: each turn adds its place's test.
use mathlib.Core.Path.{◌≡◌}
use mathlib.Core.Bool.{◌||◌}
use lib.Dec.{eqb}
use Rattle.lists.specs.Below.{every_below}
use Rattle.table.specs.Lists.{place_at, is_taken}
use Rattle.table_words.specs.Fours.{four_at_word}
use Rattle.rule_zeros.proofs.endpoints_clear.Given as goal

abbrev pub invariant-loop-j : goal.invariant-loop-j
invariant-loop-j l = l.clear ≡ every_below (λ j. is_taken (place_at (four_at_word l.t l.f) j) || eqb ((four_at_word l.t l.f).endpoint j) 0) l.j
