-- `columns::Columns::put_four` meets its contract: the connections of the places so far are put.
use Prim.Native.Nat.{◌+◌, ◌≤◌}
use mathlib.Core.Path.{◌≡◌}
use mathlib.Core.List.{◌++◌}
use Rattle.lists.specs.Below.{below}
use Rattle.table.specs.Lists.{held_place}
use Rattle.table_words.specs.Fours.{four_at_word}
use Rattle.rule_connections.specs.Rows.{lsps_of}
use Rattle.rule_connections.specs.Columns.{rows_in}
use Rattle.rule_connections.proofs.columns.Columns.put_four.Given as goal

abbrev pub invariant-loop-j : goal.invariant-loop-j
invariant-loop-j l =
    (rows_in l.f.sender l.self ≡ rows_in l.f.sender l.initial.self ++ lsps_of (below (held_place (four_at_word l.t l.f)) l.j))
    × (l.self.count ≤ l.initial.self.count + l.j)
