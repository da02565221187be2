-- `Roster::put` meets its contract: after `k` turns the first `k` records are in.
use mathlib.Core.Path.{◌≡◌}
use Rattle.table.specs.Words.{table_of}
use Rattle.rosters.proofs.Records.{taking}
use Rattle.rosters.proofs.Roster.put.Given as goal

abbrev pub invariant-loop-k : goal.invariant-loop-k
invariant-loop-k l = table_of l.t ≡ taking l.self.bytes.now l.k
