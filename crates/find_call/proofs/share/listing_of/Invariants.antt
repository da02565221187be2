-- `share::listing_of` meets its contract: the address is not one of the first `k` customers'.
use Rattle.std.proofs.Common.{◌≡◌, false}
use Rattle.lists.specs.Below.{below}
use Rattle.table.specs.Lists.{listed_at}
use Rattle.table.specs.Share.{is_listed}
use Rattle.table.specs.Words.{table_of}
use Rattle.find_call.proofs.share.listing_of.Given as goal

abbrev pub invariant-loop-k : goal.invariant-loop-k
invariant-loop-k l = is_listed (below (listed_at (table_of l.t)) l.k) l.address ≡ false
