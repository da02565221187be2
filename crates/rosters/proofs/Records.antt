-- The laws of a turn over the records: what it stores, what it adds, and what is left to answer.
-- Assumes nothing.
use Rattle.std.specs.Prelude.{Err}
use Prim.Native.Nat.{ℕ, suc, ◌+◌, ◌-◌, ◌*◌, ◌≤◌, ◌<◌}
use native.Mathlib.Omega.{arith}
use mathlib.Core.Path.{◌≡◌, refl}
use mathlib.Core.List.{List, [], ◌∷◌}
use mathlib.Core.Bool.{Bool, true, cond}
use lib.Dec.{ltb}
use lib.ListN.{set, replicate}
use borrow.Author.Tests.{eq-eqb, ne_eqb}
use Rattle.numbers.specs.BigEndian.{be24_at, be32_at}
use Rattle.lists.specs.Count.{has}
use Rattle.lists.specs.Below.{element_if, below}
use Rattle.lists.proofs.Below.{sum_turn}
use Rattle.lists.proofs.Filled.{fill_turn, fill_left}
use Rattle.table.specs.declared.answer.RosterFault.{RosterFault}
use Rattle.table.specs.declared.answer.RosterFault.TheVariants.{Short, BadForm, Length, SpareBits, Share, Repeated, Guarantees}
use Rattle.table.specs.Table.{Table}
use Rattle.table.specs.Total.{slots}
use Rattle.table.specs.Zeros.{no_call, no_customer, empty_table, past_customer}
use Rattle.table.specs.Lists.{customer_at}
use Rattle.table.specs.Share.{is_at}
use Rattle.table.specs.Rules.{bad_share, guarantees}
use Rattle.table.specs.Stores.{with_terms, with_roster}
use Rattle.table.specs.Roster.{RosterAnswer, Accepted, form_in, customers_in, total_in, spare_in, shares_in, terms_in, records_in, records_answer, customer_in, customers_from, fresh_table, roster_number, table_for}
use Rattle.rosters.specs.Taken.{with_record}

-- ---- the customers

-- the empty table with the first k records in
abbrev pub taking : List ℕ → ℕ → Table
taking s k = record {
  address = 0;
  epoch = 0;
  next = 1;
  time = 0;
  listed = 0;
  form = 0;
  occupied = replicate 4 0;
  customers = customers_from s k;
  calls = replicate slots no_call;
}

pub taking_none : (s : List ℕ) → empty_table ≡ taking s 0
unfolding empty_table customers_from below
taking_none s = refl

one_more_customer : (s : List ℕ) (k : ℕ) → k < 8 → set (customers_from s k) k (customer_in s k) ≡ customers_from s (k + 1)
unfolding customers_from
one_more_customer s k h = fill_turn (customer_in s) (λ _. no_customer) 8 k _ _ h refl refl

-- the next record is unused
next_unused : (s : List ℕ) (k : ℕ) → k < 8 → customer_at (taking s k) k ≡ no_customer
unfolding customers_from
next_unused s k h = fill_left (customer_in s) (λ _. no_customer) 8 k k _ past_customer (omega arith) h refl

terms_in_lem : (s : List ℕ) (k : ℕ) → with_terms no_customer (terms_in s k).address (terms_in s k).guarantee (terms_in s k).limit ≡ customer_in s k
unfolding no_customer
terms_in_lem s k = refl

pub taking_turn : (t : Table) (s : List ℕ) (k : ℕ) → k < 8 → t ≡ taking s k → with_record t s k ≡ taking s (k + 1)
taking_turn t s k h e = rw (e, next_unused s k h, terms_in_lem s k, one_more_customer s k h)

pub taking_all : (t : Table) (s : List ℕ) (address epoch form n : ℕ) → t ≡ taking s n → address ≡ be32_at s 1 → epoch ≡ be24_at s 5 → form ≡ form_in s → n ≡ customers_in s
    → with_roster t address epoch n form ≡ fresh_table s
unfolding fresh_table
taking_all t s address epoch form n e a p f q = rw (e, a, p, f, q)

-- ---- the guarantees

pub no_guarantees : (s : List ℕ) → 0 ≡ guarantees (records_in s 0)
unfolding below
no_guarantees s = refl

pub one_more_guarantee : (s : List ℕ) (k sum guarantee : ℕ) → guarantee ≡ (terms_in s k).guarantee → sum ≡ guarantees (records_in s k)
    → sum + guarantee ≡ guarantees (records_in s (k + 1))
unfolding element_if
one_more_guarantee s k sum guarantee e h = sum_turn (λ j. terms_in s j ∷ []) (λ c. c.guarantee) k sum guarantee true (terms_in s k) refl h e

-- ---- the answer from record k on, of n: by that record's three tests, and after the last record by the sum

module _ (s : List ℕ) (k n : ℕ) where
  one_fewer : k < n → n - k ≡ suc (n - (k + 1))
  one_fewer h = omega arith

  pub spare_bits : (spare : ℕ) → k < n → spare ≡ spare_in (form_in s) (shares_in s k) → (spare ≡ 0 → ⊥) → records_answer s k (n - k) ≡ Err SpareBits
  unfolding records_answer
  spare_bits spare h e p = rw (one_fewer h, ← e, ne_eqb spare 0 p)

  -- `bad_share` does not look at the address
  pub judged : (spare guarantee limit total address : ℕ) (bad twice : Bool) → k < n → spare ≡ spare_in (form_in s) (shares_in s k) → spare ≡ 0
      → guarantee ≡ (terms_in s k).guarantee → limit ≡ (terms_in s k).limit → total ≡ total_in s → address ≡ be32_at s (8 + 6 * k)
      → bad ≡ bad_share total (record { address = 0; guarantee = guarantee; limit = limit }) → twice ≡ has (is_at address) (records_in s k)
      → records_answer s k (n - k) ≡ cond bad (Err Share) (cond twice (Err Repeated) (records_answer s (k + 1) (n - (k + 1))))
  unfolding records_answer bad_share
  judged spare guarantee limit total address bad twice h e p g l o f q r = rw (q, r, f, g, l, o, one_fewer h, ← e, eq-eqb spare 0 p)

  pub summed : (total sum : ℕ) → n ≤ k → total ≡ total_in s → sum ≡ guarantees (records_in s k) → records_answer s k (n - k) ≡ cond (ltb total sum) (Err Guarantees) Accepted
  unfolding records_answer
  summed total sum h o e = let z : n - k ≡ 0 = omega arith in rw (z, o, e)

-- ---- the table that goes with an answer

module _ (s : List ℕ) (t : Table) (a : RosterAnswer) where
  pub table_fresh : roster_number a ≡ 0 → t ≡ fresh_table s → t ≡ table_for a s
  unfolding table_for
  table_fresh n e = rw (eq-eqb (roster_number a) 0 n) e

  pub table_empty : (roster_number a ≡ 0 → ⊥) → t ≡ empty_table → t ≡ table_for a s
  unfolding table_for
  table_empty n e = rw (ne_eqb (roster_number a) 0 n) e

-- ---- the table that goes with a refusal

pub table_refused : (f : RosterFault) (s : List ℕ) (t : Table) → t ≡ empty_table → t ≡ table_for (Err f) s
unfolding table_for
table_refused Short s t e = e
table_refused BadForm s t e = e
table_refused Length s t e = e
table_refused SpareBits s t e = e
table_refused Share s t e = e
table_refused Repeated s t e = e
table_refused Guarantees s t e = e
