-- Every table rule holds on the table of an accepted roster, and on the empty one.
-- Assumes nothing.
use Rattle.std.proofs.Common.{◌≡◌, ℕ, zero, suc, ◌+◌, ◌*◌, ◌/◌, ◌<◌, ◌≤◌, max, Bool, true, false, cond, not, ◌||◌, eqb, ltb, Err, List, [], ◌∷◌, length, get_or, replicate, sym, refl, ◌∙◌, zero-add, arith, ltb-false, le-ltb, lt-ltb, ne_eqb, le-leb}
use native.Mathlib.Nat.{zero-max}
use lib.ListN.{get_or-replicate}
use borrow.Author.Tests.{eqb-false, not-false}
use Rattle.numbers.specs.BigEndian.{be24_at, be32_at}
use Rattle.numbers.specs.Search.{zeros_at}
use Rattle.numbers.proofs.BigEndian.{be24_bound}
use Rattle.lists.specs.Count.{has, no_two}
use Rattle.lists.specs.Below.{element_if, list_if, below, every_below}
use Rattle.lists.proofs.Count.{sum_ext, has_nothing}
use Rattle.lists.proofs.Below.{has_turn, below_ext, below_nothing, below_first, below_more, get_d_each, every_within}
use Rattle.lists.proofs.Pairs.{no_two_append, meet_element}
use Rattle.lists.proofs.Tests.{eqb_swap}
use Rattle.table.specs.declared.answer.RosterFault.TheVariants.{Short, BadForm, Length, SpareBits, Share, Repeated, Guarantees}
use Rattle.table.specs.Table.{Table}
use Rattle.table.specs.Total.{slots, total_for}
use Rattle.table.specs.Word.{bits, is_used}
use Rattle.table.specs.Zeros.{no_call, no_customer, empty_table, past_call, past_customer}
use Rattle.table.specs.Lists.{Terms, customer_at, terms_of, listed_at, roster, open_at, entries, held_at, customer_four, held_in, standalone_at, held}
use Rattle.table.specs.Share.{is_at, S}
use Rattle.table.specs.Rules.{bad_share, same_address, guarantees, acceptable, roster_holds, over_limit, place_clear, place_valid, call_clear, customer_free_clear, customer_clear, slot_free_clear, record_free_clear, slots_within_total, within_limits, share_within_total, names_and_ids, refreshes_past, holds, rules_hold}
use Rattle.table.specs.Roster.{RosterAnswer, Accepted, roster_number, form_in, customers_in, total_in, shares_in, terms_in, spare_in, records_in, bad_form, records_answer, roster_answer, customer_in, customers_from, fresh_table}
use Rattle.table.proofs.Slots.{none_used}
use Rattle.table.specs.Claims.{FreshHolds, EmptyHolds}

-- ---- a table with no calls and no connections

pub zero_at : (n i : ℕ) → get_or {A = ℕ} (replicate n 0) i 0 ≡ 0
zero_at zero i = refl
zero_at (suc n) zero = refl
zero_at (suc n) (suc i) = zero_at n i

pub all_free : (i : ℕ) → is_used (replicate 4 0) i ≡ false
all_free i = none_used (replicate 4 0) i (zero_at 4 (i / 64))

pub free_clear : call_clear no_call ≡ true
unfolding no_call call_clear zeros_at every_below place_clear
free_clear = refl

module _ (address epoch form : ℕ) (s : List ℕ) (n : ℕ) where
  -- the first n records of s are listed
  abbrev idle : Table
  idle = record {
    address = address;
    epoch = epoch;
    next = 1;
    time = 0;
    listed = n;
    form = form;
    occupied = replicate 4 0;
    customers = customers_from s n;
    calls = replicate slots no_call;
  }

  customer_at_lem : (k : ℕ) → k < 8 → customer_at idle k ≡ cond (ltb k n) (customer_in s k) no_customer
  unfolding customers_from
  customer_at_lem k h = get_d_each (λ k. cond (ltb k n) (customer_in s k) no_customer) 8 k past_customer h

  listed_at_lem : (k : ℕ) → k < 8 → listed_at idle k ≡ element_if (ltb k n) (terms_in s k)
  unfolding element_if
  listed_at_lem k h = rw (customer_at_lem k h) (by (ltb k n))
    where
      by : (b : Bool) → element_if b (terms_of (cond b (customer_in s k) no_customer)) ≡ element_if b (terms_in s k)
      by true = refl
      by false = refl

  roster_is : n ≤ 8 → roster idle ≡ records_in s n
  roster_is h = below_ext (listed_at idle) (λ k. element_if (ltb k n) (terms_in s k)) 8 listed_at_lem ∙ below_first (terms_in s) n 8 h

  no_entries : entries idle ≡ []
  unfolding element_if
  no_entries = below_nothing (open_at idle) slots (λ i h. rw (all_free i))

  none_under_calls : (i : ℕ) → held_at idle i ≡ []
  unfolding list_if
  none_under_calls i = rw (all_free i)

  none_standalone : (k : ℕ) → k < 8 → standalone_at idle k ≡ []
  unfolding list_if element_if below
  none_standalone k h = rw (customer_at_lem k h) (by (ltb k n))
    where
      by : (b : Bool) → list_if b (held_in (customer_four (cond b (customer_in s k) no_customer))) ≡ []
      by true = refl
      by false = refl

  none_held : held idle ≡ []
  none_held = rw (below_nothing (held_at idle) slots (λ i h. none_under_calls i), below_nothing (standalone_at idle) 8 none_standalone)

  -- the rules, but for that of the roster itself

  within_limits_lem : holds within_limits idle ≡ true
  within_limits_lem = rw (no_entries, has_nothing (over_limit []) (roster idle) (λ c. le-ltb c.limit 0 (omega arith)))

  -- S is the sum of the guarantees
  within_total : n ≤ 8 → guarantees (records_in s n) ≤ total_for form → holds share_within_total idle ≡ true
  unfolding S
  within_total few g =
      rw (no_entries, roster_is few, sum_ext (λ c. max 0 c.guarantee) (λ c. c.guarantee) (records_in s n) (λ c. zero-max c.guarantee))
      (le-leb (guarantees (records_in s n)) (total_for form) g)

  slots_within : holds slots_within_total idle ≡ true
  slots_within = every_within _ bits (λ i h. rw (all_free i))

  valid_ids_lem : holds names_and_ids idle ≡ true
  valid_ids_lem = every_within _ slots (λ i h. rw (all_free i))

  past_refreshes : holds refreshes_past idle ≡ true
  past_refreshes = every_within _ slots (λ i h. rw (all_free i))

  slot_free_clear_lem : (i : ℕ) → i < slots → slot_free_clear idle i ≡ true
  slot_free_clear_lem i h = rw (all_free i, get_or-replicate slots i no_call past_call h) free_clear

  record_free_clear_lem : (k : ℕ) → k < 8 → record_free_clear idle k ≡ true
  unfolding no_customer customer_free_clear customer_clear every_below place_clear place_valid
  record_free_clear_lem k h = rw (customer_at_lem k h) (by (ltb k n))
    where
      by : (b : Bool) → cond b (customer_free_clear (cond b (customer_in s k) no_customer)) (customer_clear (cond b (customer_in s k) no_customer)) ≡ true
      by true = refl
      by false = refl

  idle_holds : n ≤ 8 → guarantees (records_in s n) ≤ total_for form → roster_holds idle ≡ true → rules_hold idle ≡ true
  unfolding rules_hold
  idle_holds few g r =
      rw (r, slots_within, within_limits_lem, within_total few g, valid_ids_lem, past_refreshes, every_within (slot_free_clear idle) slots slot_free_clear_lem, every_within (record_free_clear idle) 8 record_free_clear_lem, no_entries, none_held)

-- the empty table lists no records
pub empty_holds : EmptyHolds
unfolding empty_table customers_from below roster_holds
empty_holds = idle_holds 0 0 0 [] 0 (omega arith) (omega arith) refl

-- ---- what an accepted roster has passed

-- an answer that stands behind a test
passed : (b : Bool) (x r : RosterAnswer) → eqb (roster_number x) 0 ≡ false → cond b x r ≡ Accepted → (b ≡ false) × (r ≡ Accepted)
passed true x r n e = let z : true ≡ false = rw e at n in (z, cc)
passed false x r n e = (refl, e)

neither : (a b : Bool) → (a || b) ≡ false → (a ≡ false) × (b ≡ false)
neither true b h = (h, cc)
neither false b h = (refl, h)

-- a good form has one to eight customers
pub good_count : (s : List ℕ) → bad_form s ≡ false → (0 < customers_in s) × (customers_in s ≤ 8)
unfolding bad_form
good_count s h =
    let m = neither (not (eqb (form_in s) 1 || eqb (form_in s) 2) || eqb (customers_in s) 0) (ltb 8 (customers_in s)) h in
    let z = neither (not (eqb (form_in s) 1 || eqb (form_in s) 2)) (eqb (customers_in s) 0) m.0 in
    (omega (arith, eqb-false (customers_in s) 0 z.1), ltb-false 8 (customers_in s) m.1)

-- and is form 1 or 2
good_form : (s : List ℕ) → bad_form s ≡ false → (eqb (form_in s) 1 || eqb (form_in s) 2) ≡ true
unfolding bad_form
good_form s h =
    let m = neither (not (eqb (form_in s) 1 || eqb (form_in s) 2) || eqb (customers_in s) 0) (ltb 8 (customers_in s)) h in
    not-false (eqb (form_in s) 1 || eqb (form_in s) 2) (neither (not (eqb (form_in s) 1 || eqb (form_in s) 2)) (eqb (customers_in s) 0) m.0).0

one_more_good : (s : List ℕ) (k : ℕ) → has (bad_share (total_in s)) (records_in s k) ≡ false → bad_share (total_in s) (terms_in s k) ≡ false
    → has (bad_share (total_in s)) (records_in s (k + 1)) ≡ false
unfolding element_if
one_more_good s k h b = sym (has_turn (λ j. terms_in s j ∷ []) (bad_share (total_in s)) k false false true (terms_in s k) refl (sym h) (sym b))

one_more_apart : (s : List ℕ) (k : ℕ) → no_two same_address (records_in s k) ≡ true → has (is_at (be32_at s (8 + 6 * k))) (records_in s k) ≡ false
    → no_two same_address (records_in s (k + 1)) ≡ true
one_more_apart s k h d =
    let r = records_in s k in
    let x = terms_in s k in
    rw (below_more (λ j. terms_in s j ∷ []) k, no_two_append same_address r (x ∷ []), meet_element same_address r x (is_at x.address) (λ c. eqb_swap c.address x.address), h, d)

record Good (total : ℕ) (r : List Terms) : Type 0 where
  pub shares : has (bad_share total) r ≡ false
  pub apart : no_two same_address r ≡ true
  pub sum : guarantees r ≤ total

records_good : (s : List ℕ) (k left n : ℕ) → k + left ≡ n → has (bad_share (total_in s)) (records_in s k) ≡ false → no_two same_address (records_in s k) ≡ true
    → records_answer s k left ≡ Accepted → Good (total_in s) (records_in s n)
unfolding records_answer
records_good s k zero n e g a h =
    let q : n ≡ k = omega arith in
    let o = passed (ltb (total_in s) (guarantees (records_in s k))) (Err Guarantees) Accepted refl h in
    rw q (record { shares = g; apart = a; sum = ltb-false (total_in s) (guarantees (records_in s k)) o.0 })
records_good s k (suc left) n e g a h =
    let o = passed (not (eqb (spare_in (form_in s) (shares_in s k)) 0)) (Err SpareBits) _ refl h in
    let b = passed (bad_share (total_in s) (terms_in s k)) (Err Share) _ refl o.1 in
    let d = passed (has (is_at (be32_at s (8 + 6 * k))) (records_in s k)) (Err Repeated) _ refl b.1 in
    records_good s (k + 1) left n (omega arith) (one_more_good s k g b.0) (one_more_apart s k a d.0) d.1

good_acceptable : (total : ℕ) (r : List Terms) → Good total r → acceptable total r ≡ true
unfolding acceptable
good_acceptable total r g = rw (g.shares, g.apart, le-leb (guarantees r) total g.sum)

pub fresh_holds : FreshHolds
unfolding roster_answer fresh_table roster_holds below
fresh_holds s bytes h =
    let n = customers_in s in
    let o = passed (ltb (length s) 8) (Err Short) _ refl h in
    let f = passed (bad_form s) (Err BadForm) _ refl o.1 in
    let l = passed (not (eqb (length s) (8 + 6 * n))) (Err Length) _ refl f.1 in
    let c = good_count s f.0 in
    let g = records_good s 0 n n (zero-add n) refl refl l.1 in
    idle_holds (be32_at s 1) (be24_at s 5) (form_in s) s n c.1 g.sum
    (rw (ne_eqb n 0 (omega arith), good_form s f.0, le-leb n 8 c.1, lt-ltb (be24_at s 5) 0x1000000 (be24_bound s 5 bytes), roster_is (be32_at s 1) (be24_at s 5) (form_in s) s n c.1) (good_acceptable (total_in s) (records_in s n) g))

-- ---- what the table of an accepted roster shows: the roster as read, no calls, no connections

pub fresh_roster : (s : List ℕ) → roster_answer s ≡ Accepted → roster (fresh_table s) ≡ records_in s (customers_in s)
unfolding roster_answer fresh_table
fresh_roster s h =
    let o = passed (ltb (length s) 8) (Err Short) _ refl h in
    let f = passed (bad_form s) (Err BadForm) _ refl o.1 in
    roster_is (be32_at s 1) (be24_at s 5) (form_in s) s (customers_in s) (good_count s f.0).1

pub fresh_entries : (s : List ℕ) → entries (fresh_table s) ≡ []
unfolding fresh_table
fresh_entries s = no_entries (be32_at s 1) (be24_at s 5) (form_in s) s (customers_in s)

pub fresh_held : (s : List ℕ) → held (fresh_table s) ≡ []
unfolding fresh_table
fresh_held s = none_held (be32_at s 1) (be24_at s 5) (form_in s) s (customers_in s)
