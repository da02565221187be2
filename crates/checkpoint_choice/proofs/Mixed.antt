-- The chain of a record: its name's bytes mixed one after another, and records of one pair and long Call ID, which are of
-- one chain.
-- Assumes nothing.
use Prim.Native.Nat.{ℕ, ◌+◌, ◌<◌, ◌≤◌}
use native.Mathlib.Numerals.{add-one}
use mathlib.Core.Path.{◌≡◌}
use mathlib.Core.List.{List}
use mathlib.Core.Bool.{true}
use lib.Dec.{eqb}
use lib.ListN.{length, drop, get_or, drop_of_length-le}
use lib.Seq.{drop-cons}
use borrow.Author.Tests.{eqb-true}
use Rattle.lists.proofs.Tests.{both}
use Rattle.table.specs.Lists.{Ids}
use Rattle.table.specs.Rules.{same_bytes, same_pair, same_long}
use Rattle.table.proofs.SameBytes.{same_bytes_lem}
use Rattle.checkpoint_chains.specs.declared.Factors.{Factors}
use Rattle.checkpoint_chains.specs.Spread.{mixed_with}
use Rattle.checkpoint_choice.specs.LongChain.{long_mixed, long_chain}

-- one byte more of a name
pub mixed_turn : (f : Factors) (name : List ℕ) (k sum : ℕ) → k < length name
    → long_mixed f sum (drop k name) ≡ long_mixed f (mixed_with f sum (get_or name k 0)) (drop (k + 1) name)
mixed_turn f name k sum h = rw (add-one, drop-cons name k 0 h)

pub mixed_ends : (f : Factors) (name : List ℕ) (k sum : ℕ) → length name ≤ k → long_mixed f sum (drop k name) ≡ sum
mixed_ends f name k sum h = rw (drop_of_length-le name {i = k} h)

pub one_chain : (f : Factors) (c d : Ids) → same_long c d ≡ true → long_chain f c ≡ long_chain f d
unfolding same_long long_chain
one_chain f c d h =
    let k = both (same_pair c d) (same_bytes c.long d.long) h in
    let m = both (eqb c.endpoint d.endpoint) (eqb c.sender d.sender) k.0 in
    rw (eqb-true c.endpoint d.endpoint m.0, eqb-true c.sender d.sender m.1, same_bytes_lem c.long d.long k.1)
