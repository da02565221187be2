-- What stands where: a table with another's calls, field by field, and of another's connections so many, four by four.
-- Assumes nothing.
use Prim.Native.Nat.{ℕ, ◌<◌}
use native.Mathlib.Omega.{arith}
use mathlib.Core.Path.{◌≡◌, refl, sym, ap, ap₂, ◌∙◌}
use mathlib.Core.List.{List, [], ◌∷◌, ◌++◌}
use mathlib.Core.Bool.{Bool, true, false, cond, ◌&&◌}
use lib.Dec.{ltb, eqb}
use lib.ListN.{length, get_or}
use borrow.Author.Tests.{eqb-true, ltb-true}
use Rattle.numbers.specs.Search.{zeros_at}
use Rattle.lists.specs.Below.{element_if, list_if, below}
use Rattle.lists.proofs.Tests.{both}
use Rattle.lists.proofs.Count.{without_append}
use Rattle.lists.proofs.Below.{below_ext, below_nothing, below_first, length_each, get_d_each, every_at}
use Rattle.table.specs.Table.{Place, Call, Customer, Table}
use Rattle.table.specs.Total.{slots}
use Rattle.table.specs.Word.{is_used}
use Rattle.table.specs.Lists.{Terms, customer_at, terms_of, roster, entry_of, call_at, open_at, entries, Held, Four, call_four, customer_four, place_at, is_taken, held_place, held_in, held_at, standalone_at, held}
use Rattle.table.specs.Rules.{place_clear, four_clear, unused_clear, call_clear, customer_clear}
use Rattle.spec_changes.specs.Shape.{Shape}
use Rattle.spec_changes.specs.Connections.{added}
use Rattle.spec_changes.proofs.Kept.{Kept}
use Rattle.spec_changes.proofs.Added.{MayAdd}
use Rattle.spec_changes.proofs.Tables.{added_words}
use Rattle.spec_changes.proofs.Told.{listed_most}
use Rattle.spec_checkpoint.specs.Places.{ClosedUp, without_places}
use Rattle.spec_checkpoint.specs.Latest.{refresh_in, latest_refresh}
use Rattle.spec_checkpoint.proofs.Latest.{largest_ext}
use Rattle.spec_checkpoint.proofs.Order.{under_of, standalone_of, under_all, standalone_all, under_grows, standalone_grows, fields_stay}

-- u has t's calls, and of t's connections those of the list
pub record Standing (t u : Table) (l : List Held) : Type 0 where
  pub occupied : u.occupied ≡ t.occupied
  pub fields : (i : ℕ) → i < slots → is_used t.occupied i ≡ true → without_places (call_at u i) ≡ without_places (call_at t i)
  pub under : (i : ℕ) → i < slots → is_used t.occupied i ≡ true → held_in (call_four (call_at u i)) ≡ under_of (call_at t i) l
  pub standalone : (i : ℕ) → i < 8 → ltb i t.listed ≡ true → held_in (customer_four (customer_at u i)) ≡ standalone_of (customer_at t i) l

-- ---- two tables of one roster list the same customers in the same places

no_terms : Terms
no_terms = record { address = 0; guarantee = 0; limit = 0 }

listed_each : (t : Table) → Kept t → roster t ≡ below (λ i. terms_of (customer_at t i) ∷ []) t.listed
listed_each t k = below_first (λ i. terms_of (customer_at t i)) t.listed 8 (listed_most t k.accepted)

module _ (t u : Table) (k : Kept t) (m : Kept u) (same : roster u ≡ roster t) where
  pub listed_same : u.listed ≡ t.listed
  listed_same =
      sym (ap length (listed_each u m) ∙ length_each (λ i. terms_of (customer_at u i)) u.listed)
      ∙ ap length same
      ∙ ap length (listed_each t k)
      ∙ length_each (λ i. terms_of (customer_at t i)) t.listed

  terms_same : (i : ℕ) → ltb i t.listed ≡ true → terms_of (customer_at u i) ≡ terms_of (customer_at t i)
  terms_same i h =
      let l = ltb-true i t.listed h in
      sym (ap (λ r. get_or r i no_terms) (listed_each u m) ∙ get_d_each (λ i. terms_of (customer_at u i)) u.listed i no_terms (omega (arith, listed_same)))
      ∙ ap (λ r. get_or r i no_terms) (same ∙ listed_each t k)
      ∙ get_d_each (λ i. terms_of (customer_at t i)) t.listed i no_terms l

  -- ---- one connection more

  pub stands_on : (x : Held) (l : List Held) → Shape u → MayAdd u x → ClosedUp u → Standing t u l → Standing t (added u x) (l ++ x ∷ [])
  stands_on x l s a o b = record {
    occupied = added_words u x ∙ b.occupied;
    fields = λ i h v. fields_stay u x s m a o i ∙ b.fields i h v;
    under = λ i h v.
        under_grows u x s m a o i h (ap (λ w. is_used w i) b.occupied ∙ v)
        ∙ ap₂ ◌++◌ (b.under i h v) (ap (λ c. under_of c (x ∷ [])) (b.fields i h v))
        ∙ sym (without_append _ l (x ∷ []));
    standalone = λ i h v.
        standalone_grows u x s m a o i h (ap (λ n. ltb i n) listed_same ∙ v)
        ∙ ap₂ ◌++◌ (b.standalone i h v) (rw (ap (λ c. c.address) (terms_same i v)))
        ∙ sym (without_append _ l (x ∷ []));
  }

-- ---- what is free holds no connection

clear_free : (p : Place) → place_clear p ≡ true → is_taken p ≡ false
unfolding place_clear
clear_free p h =
    let a = both (eqb p.taken 0 && eqb p.tunnel 0 && eqb p.extended 0) _ h in
    let b = both (eqb p.taken 0 && eqb p.tunnel 0) _ a.0 in
    rw (eqb-true p.taken 0 (both _ _ b.0).0)

clear_four : (f : Four) → four_clear f ≡ true → held_in f ≡ []
unfolding element_if
clear_four f h = below_nothing (held_place f) 4 (λ j l. rw (clear_free (place_at f j) (every_at _ 4 h j l)))

call_four_clear : (c : Call) → call_clear c ≡ true → four_clear (call_four c) ≡ true
unfolding call_clear
call_four_clear c h =
    (both (unused_clear c && eqb c.endpoint 0 && eqb c.sender 0 && eqb c.id 0 && eqb c.size 0 && zeros_at c.name 0 32) (four_clear (call_four c)) h).1

customer_four_clear : (c : Customer) → customer_clear c ≡ true → four_clear (customer_four c) ≡ true
unfolding customer_clear
customer_four_clear c h =
    let numbers = eqb c.address 0 && eqb c.guarantee 0 && eqb c.limit 0 && eqb c.kept 0 && eqb c.epoch 0 && eqb c.identifier 0 in
    (both numbers (four_clear (customer_four c)) (both (numbers && four_clear (customer_four c)) _ h).0).1

module _ (t : Table) (k : Kept t) where
  free_slot_four : (i : ℕ) → i < slots → is_used t.occupied i ≡ false → held_in (call_four (call_at t i)) ≡ []
  free_slot_four i l u = clear_four (call_four (call_at t i)) (call_four_clear (call_at t i) (rw u at (k.slots i l)))

  unlisted_four : (i : ℕ) → i < 8 → ltb i t.listed ≡ false → held_in (customer_four (customer_at t i)) ≡ []
  unlisted_four i l u = clear_four (customer_four (customer_at t i)) (customer_four_clear (customer_at t i) (rw u at (k.records i l)))

-- ---- with all of its connections

module _ (t u : Table) (k : Kept t) (m : Kept u) (same : roster u ≡ roster t) (b : Standing t u (held t)) where
  pub under_same : (i : ℕ) → i < slots → held_in (call_four (call_at u i)) ≡ held_in (call_four (call_at t i))
  under_same i l = by (is_used t.occupied i) refl
    where
      by : (c : Bool) → is_used t.occupied i ≡ c → held_in (call_four (call_at u i)) ≡ held_in (call_four (call_at t i))
      by true e = b.under i l e ∙ under_all t k i l e
      by false e = free_slot_four u m i l (ap (λ w. is_used w i) b.occupied ∙ e) ∙ sym (free_slot_four t k i l e)

  pub standalone_same : (i : ℕ) → i < 8 → held_in (customer_four (customer_at u i)) ≡ held_in (customer_four (customer_at t i))
  standalone_same i l = by (ltb i t.listed) refl
    where
      by : (c : Bool) → ltb i t.listed ≡ c → held_in (customer_four (customer_at u i)) ≡ held_in (customer_four (customer_at t i))
      by true e = b.standalone i l e ∙ standalone_all t k i l e
      by false e = unlisted_four u m i l (ap (λ n. ltb i n) (listed_same t u k m same) ∙ e) ∙ sym (unlisted_four t k i l e)

  pub entries_same : entries u ≡ entries t
  unfolding element_if
  entries_same = below_ext (open_at u) (open_at t) slots (λ i l. by i l (is_used t.occupied i) refl)
    where
      by : (i : ℕ) → i < slots → (c : Bool) → is_used t.occupied i ≡ c → open_at u i ≡ open_at t i
      by i l true e = rw (b.occupied, e) (ap (λ c. entry_of i c ∷ []) (b.fields i l e))
      by i l false e = rw (b.occupied, e)

  pub latest_same : latest_refresh u ≡ latest_refresh t
  latest_same = largest_ext (refresh_in u) (refresh_in t) slots (λ i l. rw b.occupied (by i l (is_used t.occupied i) refl))
    where
      by : (i : ℕ) → i < slots → (c : Bool) → is_used t.occupied i ≡ c → cond c (call_at u i).refreshed 0 ≡ cond c (call_at t i).refreshed 0
      by i l true e = ap (λ c. c.refreshed) (b.fields i l e)
      by i l false e = refl

  pub held_same : held u ≡ held t
  held_same =
      ap₂ ◌++◌
      (below_ext (held_at u) (held_at t) slots (λ i l. ap₂ list_if (ap (λ w. is_used w i) b.occupied) (under_same i l)))
      (below_ext (standalone_at u) (standalone_at t) 8 (λ i l. ap₂ list_if (ap (λ n. ltb i n) (listed_same t u k m same)) (standalone_same i l)))
