-- The roster's packed form, its answers in their order, and the table that an accepted one returns (01, The roster; 02,
-- A11: form 2).
use Rattle.std.specs.Prelude.{ℕ, zero, suc, ◌+◌, ◌*◌, ◌/◌, ◌%◌, Bool, cond, not, ◌||◌, List, [], ◌∷◌, length, replicate, ◌==◌, nat_lt, slice_index, Result, Ok, Err}
use Rattle.numbers.specs.BigEndian.{be16_at, be24_at, be32_at}
use Rattle.lists.specs.Count.{has}
use Rattle.lists.specs.Below.{below}
use Rattle.table.specs.declared.answer.RosterFault.{RosterFault}
use Rattle.table.specs.declared.answer.RosterFault.TheVariants.{Short, BadForm, Length, SpareBits, Share, Repeated, Guarantees}
use Rattle.table.specs.Table.{Customer, Table}
use Rattle.table.specs.Total.{slots, total_for}
use Rattle.table.specs.Zeros.{no_place, no_call, no_customer, empty_table}
use Rattle.table.specs.Lists.{Terms}
use Rattle.table.specs.Share.{is_at}
use Rattle.table.specs.Rules.{bad_share, guarantees}

-- accepted, or refused for a fault
abbrev pub RosterAnswer : Type 0
RosterAnswer = Result (Unit {0}) RosterFault

abbrev pub Accepted : RosterAnswer
Accepted = Ok tt

abbrev pub fault_number : RosterFault → ℕ
fault_number Short = 40
fault_number BadForm = 41
fault_number Length = 42
fault_number SpareBits = 43
fault_number Share = 44
fault_number Repeated = 45
fault_number Guarantees = 46

abbrev pub roster_number : RosterAnswer → ℕ
roster_number (Ok _) = 0
roster_number (Err fault) = fault_number fault

-- ---- the packed form: form number 4 bits, customer count 4, own address 32, own epoch 24

abbrev pub form_in : List ℕ → ℕ
form_in s = slice_index s 0 / 16

abbrev pub customers_in : List ℕ → ℕ
customers_in s = slice_index s 0 % 16

-- the calls that the roster's form has room for
abbrev pub total_in : List ℕ → ℕ
total_in s = total_for (form_in s)

-- a record: address 32 bits, and then in form 1 guarantee 7, limit 7, 2 spare; in form 2 guarantee 8, limit 8, none spare
unfoldable pub guarantee_in : ℕ → ℕ → ℕ
guarantee_in form shares = cond (form == 2) (shares / 256) (shares / 512)

unfoldable pub limit_in : ℕ → ℕ → ℕ
limit_in form shares = cond (form == 2) (shares % 256) (shares / 4 % 128)

unfoldable pub spare_in : ℕ → ℕ → ℕ
spare_in form shares = cond (form == 2) 0 (shares % 4)

-- the 16 bits behind a record's address
abbrev pub shares_in : List ℕ → ℕ → ℕ
shares_in s k = be16_at s (12 + 6 * k)

abbrev pub terms_in : List ℕ → ℕ → Terms
terms_in s k = record {
  address = be32_at s (8 + 6 * k);
  guarantee = guarantee_in (form_in s) (shares_in s k);
  limit = limit_in (form_in s) (shares_in s k);
}

abbrev pub records_in : List ℕ → ℕ → List Terms
records_in s k = below (λ j. terms_in s j ∷ []) k

-- ---- the answer

unfoldable pub bad_form : List ℕ → Bool
bad_form s = not (form_in s == 1 || form_in s == 2) || customers_in s == 0 || nat_lt 8 (customers_in s)

-- records front to back from record k on, within each 43, 44, 45; after all of them 46. Form 2 has no spare bits, so that
-- 43 is for form 1 alone.
unfoldable pub records_answer : List ℕ → ℕ → ℕ → RosterAnswer
records_answer s k zero = cond (nat_lt (total_in s) (guarantees (records_in s k))) (Err Guarantees) Accepted
records_answer s k (suc left) =
    cond (not (spare_in (form_in s) (shares_in s k) == 0)) (Err SpareBits)
    (cond (bad_share (total_in s) (terms_in s k)) (Err Share)
    (cond (has (is_at (be32_at s (8 + 6 * k))) (records_in s k)) (Err Repeated)
    (records_answer s (k + 1) left)))

unfoldable pub roster_answer : List ℕ → RosterAnswer
roster_answer s =
    cond (nat_lt (length s) 8) (Err Short)
    (cond (bad_form s) (Err BadForm)
    (cond (not (length s == 8 + 6 * customers_in s)) (Err Length)
    (records_answer s 0 (customers_in s))))

-- ---- the table: that roster as read, no calls or connections, next own identifier 1, all else zeros: the time, and no MESSAGE_ID kept

abbrev pub customer_in : List ℕ → ℕ → Customer
customer_in s k =
    record {
      address = (terms_in s k).address;
      guarantee = (terms_in s k).guarantee;
      limit = (terms_in s k).limit;
      kept = 0;
      epoch = 0;
      identifier = 0;
      endpoints = replicate 4 0;
      places = replicate 4 no_place;
    }

-- the first n records, and unused ones behind them
unfoldable pub customers_from : List ℕ → ℕ → List Customer
customers_from s n = below (λ k. cond (nat_lt k n) (customer_in s k) no_customer ∷ []) 8

unfoldable pub fresh_table : List ℕ → Table
fresh_table s = record {
  address = be32_at s 1;
  epoch = be24_at s 5;
  next = 1;
  time = 0;
  listed = customers_in s;
  form = form_in s;
  occupied = replicate 4 0;
  customers = customers_from s (customers_in s);
  calls = replicate slots no_call;
}

-- the table that goes with an answer: the fresh one where the roster is accepted, else the empty one
unfoldable pub table_for : RosterAnswer → List ℕ → Table
table_for answer s = cond (roster_number answer == 0) (fresh_table s) empty_table
