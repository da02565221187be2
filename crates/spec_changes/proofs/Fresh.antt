-- The table of a roster's bytes, accepted or refused, has the shape of every table; the fresh one keeps no MESSAGE_ID.
-- Assumes nothing.
use Prim.Native.Nat.{ℕ}
use native.Mathlib.Omega.{arith}
use mathlib.Core.Path.{◌≡◌, refl}
use mathlib.Core.List.{List}
use mathlib.Core.Bool.{Bool, true, false, cond}
use lib.Dec.{ltb}
use lib.ListN.{length, replicate, length-replicate, get_or-replicate}
use Rattle.lists.proofs.Below.{length_each, get_d_each}
use Rattle.table.specs.Table.{Customer}
use Rattle.table.specs.Total.{slots}
use Rattle.table.specs.Word.{FourWords}
use Rattle.table.specs.Zeros.{no_call, no_customer, empty_table, past_call, past_customer}
use Rattle.table.specs.Lists.{roster}
use Rattle.table.specs.Share.{is_listed}
use Rattle.table.specs.Roster.{customers_in, customer_in, customers_from, fresh_table}
use Rattle.table.proofs.Fresh.{zero_at}
use Rattle.spec_changes.specs.Shape.{Shape}
use Rattle.spec_changes.specs.Connections.{customer_of}
use Rattle.spec_changes.specs.Last.{none, kept_in, last_of}
use Rattle.spec_changes.proofs.Last.{listed_record}

-- a record of the roster, or an unused one behind it
abbrev record_at : List ℕ → ℕ → Customer
record_at s k = cond (ltb k (customers_in s)) (customer_in s k) no_customer

four_each : (s : List ℕ) (k : ℕ) → (length (record_at s k).endpoints ≡ 4) × (length (record_at s k).places ≡ 4)
unfolding no_customer
four_each s k = by (ltb k (customers_in s))
  where
    by : (b : Bool) → (length (cond b (customer_in s k) no_customer).endpoints ≡ 4) × (length (cond b (customer_in s k) no_customer).places ≡ 4)
    by true = (refl, refl)
    by false = (refl, refl)

-- no slot is used
no_words : FourWords (replicate 4 0)
no_words = record { four = refl; word = λ k. omega (arith, zero_at 4 k) }

pub fresh_shape : (s : List ℕ) → Shape (fresh_table s)
unfolding fresh_table customers_from no_call
fresh_shape s = record {
  calls = omega (arith, length-replicate slots no_call);
  customers = length_each (record_at s) 8;
  words = no_words;
  places = λ i h. rw (get_or-replicate slots i no_call past_call h);
  endpoints = λ k h. rw (get_d_each (record_at s) 8 k past_customer h) (four_each s k).0;
  standalone_places = λ k h. rw (get_d_each (record_at s) 8 k past_customer h) (four_each s k).1;
}

none_kept : (s : List ℕ) (k : ℕ) → kept_in (record_at s k) ≡ none
unfolding no_customer
none_kept s k = by (ltb k (customers_in s))
  where
    by : (b : Bool) → kept_in (cond b (customer_in s k) no_customer) ≡ none
    by true = refl
    by false = refl

pub fresh_last : (s : List ℕ) (sender : ℕ) → is_listed (roster (fresh_table s)) sender ≡ true → last_of (fresh_table s) sender ≡ none
unfolding fresh_table customers_from
fresh_last s sender h =
    let k = customer_of (fresh_table s) sender in
    rw (get_d_each (record_at s) 8 k past_customer (listed_record (fresh_table s) sender h).inside) (none_kept s k)

pub empty_shape : Shape empty_table
unfolding empty_table no_call no_customer
empty_shape = record {
  calls = omega (arith, length-replicate slots no_call);
  customers = length-replicate 8 no_customer;
  words = no_words;
  places = λ i h. rw (get_or-replicate slots i no_call past_call h);
  endpoints = λ k h. rw (get_or-replicate 8 k no_customer past_customer h);
  standalone_places = λ k h. rw (get_or-replicate 8 k no_customer past_customer h);
}
