-- `four::match_four` meets its contract: after `j` turns it knows of the first `j` places.
use Prim.Native.Nat.{◌≤◌}
use mathlib.Core.Path.{◌≡◌}
use Rattle.lists.specs.Count.{count_if, has}
use Rattle.lists.specs.Below.{below}
use Rattle.table.specs.Lists.{held_place}
use Rattle.table.specs.Rules.{is_lsp}
use Rattle.table_words.specs.Fours.{four_at_word}
use Rattle.spec_changes.specs.Connections.{same_four}
use Rattle.spec_calls.specs.PathRules.{lsp_of, held_by}
use Rattle.find_connection.proofs.four.match_four.Given as goal

abbrev pub invariant-loop-j : goal.invariant-loop-j
invariant-loop-j l =
    (l.four ≤ l.j) × (l.held ≡ has (is_lsp (lsp_of l.x.lsp)) (below (held_place (four_at_word l.t l.f)) l.j))
    × (l.four ≡ count_if (same_four (held_by l.x)) (below (held_place (four_at_word l.t l.f)) l.j))
