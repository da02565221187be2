-- A roster that is acceptable, or empty, lists an address once at most.
-- Assumes nothing.
use Rattle.std.proofs.Common.{◌≡◌, ℕ, ◌≤◌, Bool, true, false, cond, not, ◌&&◌, ◌||◌, eqb, ltb, leb, ◌⊎◌, List, [], refl, inl, inr, ⊎_elim, arith, le-ltb, eqb-true}
use Rattle.lists.specs.Count.{count_if, has, no_two}
use Rattle.lists.proofs.Tests.{both}
use Rattle.lists.proofs.Below.{element_not, below_nothing}
use Rattle.lists.proofs.Once.{no_two_once}
use Rattle.table.specs.Table.{Table}
use Rattle.table.specs.Total.{total_of}
use Rattle.table.specs.Lists.{Terms, customer_at, terms_of, listed_at, roster}
use Rattle.table.specs.Share.{is_at}
use Rattle.table.specs.Rules.{bad_share, same_address, guarantees, acceptable, roster_holds}

no_roster : (t : Table) → t.listed ≡ 0 → roster t ≡ []
no_roster t h = below_nothing (listed_at t) 8 (λ k l. element_not (ltb k t.listed) (terms_of (customer_at t k)) (le-ltb k t.listed (omega arith)))

-- the roster is empty, or acceptable
pub roster_cases : (t : Table) → roster_holds t ≡ true → (roster t ≡ []) ⊎ (acceptable (total_of t) (roster t) ≡ true)
unfolding roster_holds
roster_cases t h = by (eqb t.listed 0) refl h
  where
    by : (b : Bool) → eqb t.listed 0 ≡ b
        → cond b (eqb t.form 0 && eqb t.address 0 && eqb t.epoch 0) ((eqb t.form 1 || eqb t.form 2) && leb t.listed 8 && ltb t.epoch 0x1000000 && acceptable (total_of t) (roster t)) ≡ true
        → (roster t ≡ []) ⊎ (acceptable (total_of t) (roster t) ≡ true)
    by true e h = inl (no_roster t (eqb-true t.listed 0 e))
    by false e h = inr (both ((eqb t.form 1 || eqb t.form 2) && leb t.listed 8 && ltb t.epoch 0x1000000) (acceptable (total_of t) (roster t)) h).1

pub acceptable_apart : (total : ℕ) (r : List Terms) → acceptable total r ≡ true → (address : ℕ) → count_if (is_at address) r ≤ 1
unfolding acceptable
acceptable_apart total r h =
    let a = both (not (has (bad_share total) r) && no_two same_address r) (leb (guarantees r) total) h in
    no_two_once eqb (λ (c : Terms). c.address) (λ a b d e. rw (eqb-true a b e)) r (both (not (has (bad_share total) r)) (no_two same_address r) a.0).1

pub roster_apart : (t : Table) → roster_holds t ≡ true → (address : ℕ) → count_if (is_at address) (roster t) ≤ 1
roster_apart t h address = ⊎_elim (λ e. rw e (omega arith)) (λ a. acceptable_apart (total_of t) (roster t) a address) (roster_cases t h)
