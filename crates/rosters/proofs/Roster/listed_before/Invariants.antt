-- `Roster::listed_before` meets its contract: each turn looks at one record more.
use mathlib.Core.Path.{◌≡◌}
use Rattle.lists.specs.Count.{has}
use Rattle.table.specs.Share.{is_at}
use Rattle.table.specs.Roster.{records_in}
use Rattle.rosters.proofs.Roster.listed_before.Given as goal

abbrev pub invariant-loop-j : goal.invariant-loop-j
invariant-loop-j l = l.found ≡ has (is_at l.address) (records_in l.self.bytes.now l.j)
