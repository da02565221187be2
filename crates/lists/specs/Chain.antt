-- Places in chains: the last place of a chain is known by its head, and each place by its link the one before it. Words of
-- contracts only: no rule cites these.
use Rattle.std.specs.Prelude.{ℕ, zero, suc, ◌<◌, ◌≡◌, List, Bool, true, cond, ◌&&◌, eqb, length, get_or}

-- one more than the last number below a bound that passes a test, 0 where none does
unfoldable pub last_below : (ℕ → Bool) → ℕ → ℕ
last_below p zero = 0
last_below p (suc n) = cond (p n) (suc n) (last_below p n)

-- a place that is noted stands in chain m
abbrev pub in_chain : (ℕ → Bool) → (ℕ → ℕ) → ℕ → ℕ → Bool
in_chain noted chain m i = noted i && eqb (chain i) m

-- the places below n that are noted stand in their chains: heads and links have one more than a place, 0 where there is
-- none
pub record InChains (noted : ℕ → Bool) (chain : ℕ → ℕ) (heads links : List ℕ) (n : ℕ) : Type 0 where
  pub head : (m : ℕ) → m < length heads → get_or heads m 0 ≡ last_below (in_chain noted chain m) n
  pub link : (i : ℕ) → i < n → noted i ≡ true → get_or links i 0 ≡ last_below (in_chain noted chain (chain i)) i
