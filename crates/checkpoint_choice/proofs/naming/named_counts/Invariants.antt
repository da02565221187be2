-- `naming::named_counts` meets its contract: the call records are noted, then the connections counted for those that
-- are first, then each record has its count.
use Prim.Native.Nat.{ℕ, ◌+◌, ◌*◌, ◌≤◌}
use lib.ListN.{get_or}
use Rattle.spec_checkpoint.specs.Layout.{calls_in, call_record}
use Rattle.spec_checkpoint.specs.Salvage.{named_by}
use Rattle.checkpoint_choice.specs.Ranked.{Filled}
use Rattle.checkpoint_choice.specs.Chained.{Noted}
use Rattle.checkpoint_choice.proofs.Named.{Tallied, Named}
use Rattle.checkpoint_choice.proofs.naming.named_counts.Given as goal

abbrev pub invariant-loop-i : goal.invariant-loop-i
invariant-loop-i l = Noted l.f l.c.bytes.now l.heads l.links l.i

abbrev pub invariant-loop-k : goal.invariant-loop-k
invariant-loop-k l =
    ((j : ℕ) → get_or l.counts j 0 ≤ l.k) × Tallied l.c.bytes.now (4 + 55 * calls_in l.c.bytes.now) (calls_in l.c.bytes.now) l.k l.counts

abbrev pub invariant-loop-i-2 : goal.invariant-loop-i-2
invariant-loop-i-2 l =
    Filled (λ j. named_by l.c.bytes.now (call_record l.c.bytes.now j)) l.counts l.i × Named l.c.bytes.now (calls_in l.c.bytes.now) l.counts
