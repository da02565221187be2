-- `slot_name` meets its contract: the bytes so far are the slot's.
use mathlib.Core.Path.{◌≡◌}
use lib.ListN.{get_or}
use Rattle.lists.proofs.Filled.{filled}
use Rattle.table.specs.Lists.{call_at}
use Rattle.table.specs.Words.{table_of}
use Rattle.answer_call.proofs.nameless.slot_name.Given as goal

abbrev pub invariant-loop-k : goal.invariant-loop-k
invariant-loop-k l = (l.name ≡ filled (λ j. get_or (call_at (table_of l.t) l.i).name j 0) (λ j. get_or l.initial.name j 0) 32 l.k)
