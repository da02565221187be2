-- `four_valid` meets its contract: the places passed are valid.
use mathlib.Core.Path.{◌≡◌}
use Rattle.lists.specs.Below.{every_below}
use Rattle.table.specs.Lists.{place_at}
use Rattle.table.specs.Rules.{place_valid}
use Rattle.table_words.specs.Fours.{four_at_word}
use Rattle.fours.proofs.four_valid.Given as goal

abbrev pub invariant-loop-j : goal.invariant-loop-j
invariant-loop-j l = l.valid ≡ every_below (λ j. place_valid (place_at (four_at_word l.t l.f) j)) l.j
