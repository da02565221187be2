-- `short::made_short` meets its contract: after `i` turns the numbers that the first `i` slots take are marked.
use Rattle.table.specs.Words.{table_of}
use Rattle.make_ids.proofs.Marks.{Noted}
use Rattle.make_ids.proofs.short.made_short.Given as goal

abbrev pub invariant-loop-i : goal.invariant-loop-i
invariant-loop-i l = Noted (table_of l.t) l.endpoint l.sender l.i l.marks
