-- `Roster::check` meets its contract: the answer from record k on is the answer to the whole, and the sum is
-- that of the first k.
use Prim.Native.Nat.{◌≤◌, ◌-◌, ◌*◌}
use mathlib.Core.Path.{◌≡◌}
use Rattle.table.specs.Rules.{guarantees}
use Rattle.table.specs.Roster.{records_in, records_answer}
use Rattle.rosters.proofs.Roster.check.Given as goal

abbrev pub invariant-loop-k : goal.invariant-loop-k
invariant-loop-k l = (l.sum ≡ guarantees (records_in l.self.bytes.now l.k)) × (l.sum ≤ 255 * l.k) × (records_answer l.self.bytes.now l.k (l.self.count - l.k) ≡ records_answer l.self.bytes.now 0 l.self.count)
