-- `made::find_made` meets its contract: none of the first `i` slots has it.
use Rattle.std.proofs.Common.{◌≡◌, false}
use Rattle.lists.specs.Count.{has}
use Rattle.lists.specs.Below.{below}
use Rattle.table.specs.Lists.{open_at}
use Rattle.table.specs.Words.{table_of}
use Rattle.find_call.specs.Made.{is_made_for}
use Rattle.find_call.proofs.made.find_made.Given as goal

abbrev pub invariant-loop-i : goal.invariant-loop-i
invariant-loop-i l = has (is_made_for l.endpoint l.sender l.request) (below (open_at (table_of l.t)) l.i) ≡ false
