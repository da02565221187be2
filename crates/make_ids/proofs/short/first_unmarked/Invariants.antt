-- `short::first_unmarked` meets its contract: the numbers passed so far have marks.
use Rattle.make_ids.proofs.Marks.{AllMarked}
use Rattle.make_ids.proofs.short.first_unmarked.Given as goal

abbrev pub invariant-loop-n : goal.invariant-loop-n
invariant-loop-n l = AllMarked l.marks l.n
