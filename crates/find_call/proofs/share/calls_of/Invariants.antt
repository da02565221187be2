-- `share::calls_of` meets its contract: after `i` turns it has counted the first `i` slots.
use Rattle.std.proofs.Common.{◌≡◌, ◌≤◌}
use Rattle.lists.specs.Count.{count_if}
use Rattle.lists.specs.Below.{below}
use Rattle.table.specs.Lists.{open_at}
use Rattle.table.specs.Share.{from}
use Rattle.table.specs.Words.{table_of}
use Rattle.find_call.proofs.share.calls_of.Given as goal

abbrev pub invariant-loop-i : goal.invariant-loop-i
invariant-loop-i l = (l.calls ≤ l.i) × (l.calls ≡ count_if (from l.address) (below (open_at (table_of l.t)) l.i))
