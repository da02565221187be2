-- `connections::put_four` meets its contract: nothing where the four is not in use, else one place in each turn.
use Rattle.table.specs.Lists.{held_place}
use Rattle.table_words.specs.Fours.{four_at_word}
use Rattle.checkpoint_write.proofs.Rows.{RowReached}
use Rattle.checkpoint_write.proofs.connections.put_four.Given as goal

abbrev pub invariant-loop-j : goal.invariant-loop-j
invariant-loop-j l = RowReached (held_place (four_at_word l.t l.f)) l.initial.out l.j l.at l.out
