-- `note_four` meets its contract: the keys of the places so far are noted.
use Prim.Native.Nat.{◌+◌, ◌≤◌}
use mathlib.Core.Path.{◌≡◌}
use mathlib.Core.List.{◌++◌}
use Rattle.lists.specs.Below.{below}
use Rattle.table.specs.Lists.{held_place}
use Rattle.table_words.specs.Fours.{four_at_word}
use Rattle.rule_keys.specs.Keys.{held_keys}
use Rattle.rule_keys.specs.Noted.{noted_keys}
use Rattle.rule_keys.proofs.note_four.Given as goal

abbrev pub invariant-loop-j : goal.invariant-loop-j
invariant-loop-j l =
    (noted_keys l.noted ≡ noted_keys l.initial.noted ++ held_keys (below (held_place (four_at_word l.t l.f)) l.j))
    × (l.noted.count ≤ l.initial.noted.count + l.j)
