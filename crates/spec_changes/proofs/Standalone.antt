-- A change of one place of a customer's four is the change of one place, and leaves roster and calls alone.
-- Assumes nothing.
use Prim.Native.Nat.{ℕ, ◌+◌, ◌≤◌, ◌<◌}
use native.Mathlib.Omega.{arith}
use mathlib.Core.Path.{◌≡◌, refl, ◌∙◌}
use mathlib.Core.Bool.{Bool, true, false, cond, ◌&&◌, ◌||◌}
use lib.Dec.{ltb, eqb}
use lib.ListN.{length, length-set}
use lib.Seq.{get_or-set_same, get_or-set_other}
use borrow.Author.Tests.{eqb-true, eqb-false}
use Rattle.lists.specs.Count.{count_if}
use Rattle.lists.specs.Below.{element_if, list_if, below}
use Rattle.lists.proofs.Tests.{both}
use Rattle.lists.proofs.Count.{count_append}
use Rattle.lists.proofs.Below.{below_ext, below_one, every_within, every_at}
use Rattle.table.specs.Table.{Place, Customer, Table}
use Rattle.table.specs.Total.{slots}
use Rattle.table.specs.Zeros.{no_place, past_customer}
use Rattle.table.specs.Lists.{customer_at, terms_of, listed_at, roster, Held, customer_four, place_at, is_taken, held_in, held_at, standalone_at, held}
use Rattle.table.specs.Rules.{roster_holds, same_connection, place_valid, four_valid, kept_tidy, customer_free_clear, customer_clear}
use Rattle.table.specs.Stores.{with_customer, with_standalone_place}
use Rattle.spec_changes.specs.Shape.{Shape}
use Rattle.spec_changes.proofs.Kept.{Kept}
use Rattle.spec_changes.proofs.Places.{set_holds, places_valid, row_within}
use Rattle.spec_changes.proofs.Connections.{OnePlace}

-- place j of customer k, who is listed, has q, to the end point e, in the table u
module _ (t : Table) (s : Shape t) (k j e : ℕ) (q : Place) (inside : k < 8) (known : ltb k t.listed ≡ true) where
  abbrev c : Customer
  c = customer_at t k

  abbrev d : Customer
  d = with_standalone_place c j e q

  abbrev u : Table
  u = with_customer t k d

  -- what holds of the customer put in, and of every customer before, holds of every customer
  by_record : (holds : ℕ → Customer → Type 0) → holds k d → ((i : ℕ) → i < 8 → holds i (customer_at t i)) → (i : ℕ) → i < 8 → holds i (customer_at u i)
  by_record holds new old i h =
      set_holds (holds i) t.customers k i d past_customer (omega (arith, s.customers)) (λ (e : i ≡ k). rw e new) (old i h)

  standalone_roster : roster u ≡ roster t
  standalone_roster =
      below_ext (listed_at u) (listed_at t) 8
      (by_record (λ i x. element_if (ltb i t.listed) (terms_of x) ≡ listed_at t i) refl (λ i h. refl))

  standalone_shape : Shape u
  standalone_shape = record {
    calls = s.calls;
    customers = length-set t.customers k d ∙ s.customers;
    words = s.words;
    places = s.places;
    endpoints = by_record (λ i x. length x.endpoints ≡ 4) (length-set c.endpoints j e ∙ s.endpoints k inside) s.endpoints;
    standalone_places = by_record (λ i x. length x.places ≡ 4) (length-set c.places j q ∙ s.standalone_places k inside) s.standalone_places;
  }

  standalone_counts : (p : Held → Bool) → count_if p (held u) + count_if p (held_in (customer_four c)) ≡ count_if p (held t) + count_if p (held_in (customer_four d))
  unfolding list_if
  standalone_counts p =
      let old : count_if p (standalone_at t k) ≡ count_if p (held_in (customer_four c)) = rw known in
      let new : count_if p (standalone_at u k) ≡ count_if p (held_in (customer_four d)) = rw (known, get_or-set_same t.customers k d past_customer (omega (arith, s.customers))) in
      omega (
        arith,
        count_append p (below (held_at t) slots) (below (standalone_at u) 8),
        count_append p (below (held_at t) slots) (below (standalone_at t) 8),
        below_one (standalone_at u) (standalone_at t) p k 8 inside (λ i n. rw (get_or-set_other t.customers k i d past_customer n)),
      )

  -- an end point stands beside a taken place alone, as before
  beside : (is_taken q || eqb e 0) ≡ true → (i : ℕ) → i < 4 → (is_taken (place_at (customer_four c) i) || eqb ((customer_four c).endpoint i) 0) ≡ true
      → (is_taken (place_at (customer_four d) i) || eqb ((customer_four d).endpoint i) 0) ≡ true
  beside new i h old = by (eqb i j) refl
    where
      by : (b : Bool) → eqb i j ≡ b → (is_taken (place_at (customer_four d) i) || eqb ((customer_four d).endpoint i) 0) ≡ true
      by true z =
          let m : i ≡ j = eqb-true i j z in
          rw (m, get_or-set_same c.places j q no_place (omega (arith, s.standalone_places k inside)), get_or-set_same c.endpoints j e 0 (omega (arith, s.endpoints k inside))) new
      by false z = let n = eqb-false i j z in rw (get_or-set_other c.places j i q no_place n, get_or-set_other c.endpoints j i e 0 n) old

  standalone_free_clear : place_valid q ≡ true → (is_taken q || eqb e 0) ≡ true → customer_free_clear c ≡ true → customer_free_clear d ≡ true
  unfolding customer_free_clear
  standalone_free_clear valid new old =
      let b = both (kept_tidy c && four_valid (customer_four c)) _ old in
      let v = both (kept_tidy c) (four_valid (customer_four c)) b.0 in
      rw (v.0, places_valid c.places j q (s.standalone_places k inside) valid v.1) (every_within _ 4 (λ i h. beside new i h (every_at _ 4 b.1 i h)))

  standalone_kept : place_valid q ≡ true → (is_taken q || eqb e 0) ≡ true → Kept t → ((x : Held) → count_if (same_connection x) (held u) ≤ 1) → Kept u
  unfolding roster_holds
  standalone_kept valid new i once = record {
    accepted = rw standalone_roster i.accepted;
    within = i.within;
    calls = rw standalone_roster i.calls;
    once = once;
    names = i.names;
    refreshes = i.refreshes;
    slots = i.slots;
    records = by_record (λ n x. cond (ltb n t.listed) (customer_free_clear x) (customer_clear x) ≡ true)
        (rw known (standalone_free_clear valid new (rw known at (i.records k inside)))) i.records;
  }

  pub standalone_place : place_valid q ≡ true → (is_taken q || eqb e 0) ≡ true
      → OnePlace t (with_customer t k (with_standalone_place (customer_at t k) j e q)) (customer_four (customer_at t k)) (customer_four (with_standalone_place (customer_at t k) j e q)) j
  standalone_place valid new = record {
    same = record { roster = standalone_roster; entries = λ p. refl; shape = standalone_shape; kept = standalone_kept valid new };
    within = λ p. omega (
      arith,
      count_append p (below (held_at t) slots) (below (standalone_at t) 8),
      row_within p (λ i. ltb i t.listed) (λ i. held_in (customer_four (customer_at t i))) 8 k inside known,
    );
    counts = standalone_counts;
    other = λ m n. rw (get_or-set_other c.places j m q no_place n, get_or-set_other c.endpoints j m e 0 n);
  }
