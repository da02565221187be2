-- Call records in chains by pair and long Call ID: words of contracts only. No rule cites these. Any chains would do for
-- the claim in which records of one pair and long Call ID stand together.
use Rattle.std.specs.Prelude.{ℕ, ◌-◌, ◌/◌, ◌≡◌, List, [], ◌∷◌, eqb, length, get_or}
use Rattle.lists.specs.Chain.{InChains}
use Rattle.table.specs.Lists.{Ids, ids_of}
use Rattle.spec_checkpoint.specs.Layout.{call_record}
use Rattle.checkpoint_chains.specs.declared.Factors.{Factors}
use Rattle.checkpoint_chains.specs.Spread.{mixed_with, spread_over}

-- a name's bytes mixed into a number one after another
abbrev pub long_mixed : Factors → ℕ → List ℕ → ℕ
long_mixed f sum [] = sum
long_mixed f sum (x ∷ l) = long_mixed f (mixed_with f sum x) l

-- the chain of a pair and long Call ID, one of 1,024, by a checkpoint's factors
unfoldable pub long_chain : Factors → Ids → ℕ
long_chain f c = spread_over f c.endpoint c.sender (long_mixed f 0 c.long) 0 / 2

-- of a checkpoint's record i
abbrev pub chain_of : Factors → List ℕ → ℕ → ℕ
chain_of f s i = long_chain f (ids_of (call_record s i).call)

-- of place k in the chains of n records: the last record stands in place 0
abbrev pub chain_at : Factors → List ℕ → ℕ → ℕ → ℕ
chain_at f s n k = chain_of f s (n - 1 - k)

-- those of n records that are sound stand in their chains
pub record LongChains (f : Factors) (s sound heads links : List ℕ) (n : ℕ) : Type 0 where
  pub room : length heads ≡ 1024
  pub chains : InChains (λ k. eqb (get_or sound (n - 1 - k) 0) 1) (chain_at f s n) heads links n
