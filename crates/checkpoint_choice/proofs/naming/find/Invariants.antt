-- `naming::find` meets its contract: each turn goes one place back in the chain, for however many records are noted. The
-- loop does not use the factors: its invariant is of any by which the search starts where it does.
use Prim.Native.Nat.{ℕ}
use mathlib.Core.Path.{◌≡◌}
use lib.ListN.{get_or}
use Rattle.checkpoint_chains.specs.declared.Factors.{Factors}
use Rattle.checkpoint_choice.specs.Chained.{short_chain, Noted}
use Rattle.checkpoint_choice.proofs.StandIn.{Searched}
use Rattle.checkpoint_choice.proofs.naming.find.Given as goal

abbrev pub invariant-loop-e : goal.invariant-loop-e
invariant-loop-e l =
    (f : Factors) (n : ℕ) → l.initial.e ≡ get_or l.heads (short_chain f l.x.short l.x.endpoint l.x.sender) 0 → Noted f l.s l.heads l.links n → Searched f l.s n l.x.short l.x.endpoint l.x.sender l.e

abbrev pub decreases-loop-e : goal.decreases-loop-e
decreases-loop-e l = l.e
