-- Keys noted one after another, in chains: words of contracts only. No rule cites these.
use Rattle.std.specs.Prelude.{ℕ, ◌/◌, ◌<◌, ◌≡◌, List, Bool, eqb, length, get_or}
use Rattle.lists.specs.Chain.{last_below}

-- the chain that a key is of, one of 2,048
abbrev pub chain_of : ℕ → ℕ
chain_of key = key / 2097152

-- key number i is of chain m
abbrev pub is_of : List ℕ → ℕ → ℕ → Bool
is_of keys m i = eqb (chain_of (get_or keys i 0)) m

-- the number, counted from 1, of the last of the first `n` keys that is of a chain; 0 where none is
abbrev pub last_in : List ℕ → ℕ → ℕ → ℕ
last_in keys m n = last_below (is_of keys m) n

-- each of the first `n` keys is linked to the one before it in its chain
abbrev pub Linked : List ℕ → List ℕ → ℕ → Type 0
Linked links keys n = (i : ℕ) → i < n → get_or links i 0 ≡ last_in keys (chain_of (get_or keys i 0)) i

-- the first `n` keys stand in their chains
pub record Chained (heads links keys : List ℕ) (n : ℕ) : Type 0 where
  pub sized : (length heads ≡ 2048) × (length links ≡ 1432) × (length keys ≡ 1432)
  pub head : (m : ℕ) → m < 2048 → get_or heads m 0 ≡ last_in keys m n
  pub linked : Linked links keys n
