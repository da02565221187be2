-- The table that a message finds (02, A7): which calls were closed, that no connection was, and that every rule is kept.
-- Assumes nothing.
use Prim.Native.Nat.{ℕ, zero, suc, max, ◌+◌, ◌-◌, ◌*◌, ◌≤◌, ◌<◌}
use native.Mathlib.Omega.{arith}
use mathlib.Core.Path.{◌≡◌, refl, sym, ap, ◌∙◌, subst}
use mathlib.Core.List.{List, [], ◌∷◌, ◌++◌, append-nil}
use mathlib.Core.Bool.{Bool, true, false, cond, not, true≢false, ◌&&◌, ◌||◌, and-true, and-false, or-false}
use lib.Dec.{eqb, ltb, leb}
use borrow.Author.Tests.{eqb-true, eqb-false, ltb-true, ltb-false, ne_eqb, lt-ltb, le-ltb, leb-true, not-true}
use Rattle.lists.specs.Count.{count_if, has, without}
use Rattle.lists.specs.Below.{element_if, list_if, below, place_of}
use Rattle.lists.proofs.Tests.{both}
use Rattle.lists.proofs.Count.{has_true, true_has, has_append, count_append, count_le, count_without}
use Rattle.lists.proofs.Below.{count_element, count_at, has_element, element_not, below_ext, below_nothing, every_at, without_below}
use Rattle.lists.proofs.Search.{place_found}
use Rattle.table.specs.Table.{Call, Table}
use Rattle.table.specs.Total.{slots, total_of}
use Rattle.table.specs.Word.{is_used}
use Rattle.table.specs.Zeros.{no_call}
use Rattle.table.specs.Lists.{roster, Entry, call_at, entry_of, open_at, entries, call_four, place_at, is_taken, connection_at, held_place, held_in, held_at, standalone_at, held}
use Rattle.table.specs.Share.{from, calls_of}
use Rattle.table.specs.Rules.{roster_holds, same_connection, call_free_clear, call_clear, slot_free_clear}
use Rattle.table.proofs.Fresh.{free_clear}
use Rattle.spec_changes.specs.Shape.{Shape}
use Rattle.spec_changes.specs.Last.{last_of}
use Rattle.spec_changes.specs.Expiry.{Rising, raised, is_idle, is_expired, expires_at, Closing, closing_at, closings_below, closings_of, freed_all, elapsed}
use Rattle.spec_changes.proofs.Kept.{Kept, calls_fewer}
use Rattle.spec_changes.proofs.Freed.{Sized, is_in, Inside, with_slots, all_shape, all_used, all_call, all_else, all_entries}

-- ---- which slots are listed

inside_append : (l k : List Closing) → Inside l → Inside k → Inside (l ++ k)
inside_append [] k a b = b
inside_append (c ∷ l) k a b = (a.0, inside_append l k a.1 b)

module _ (t : Table) (period : ℕ) where
  abbrev here : ℕ → List Closing
  here i = element_if (expires_at t period i) (closing_at t i)

  one_inside : (n : ℕ) → n < slots → Inside (here n)
  unfolding element_if
  one_inside n h = by (expires_at t period n)
    where
      by : (b : Bool) → Inside (element_if b (closing_at t n))
      by true = (h, tt)
      by false = tt

  pub below_inside : (n : ℕ) → n ≤ slots → Inside (closings_below t period n)
  unfolding below
  below_inside zero h = tt
  below_inside (suc n) h = inside_append (closings_below t period n) (here n) (below_inside n (omega arith)) (one_inside n (omega arith))

  pub closings_inside : Inside (closings_of t period)
  unfolding closings_of
  closings_inside = by (eqb period 0)
    where
      by : (b : Bool) → Inside (cond b [] (closings_below t period slots))
      by true = tt
      by false = below_inside slots (omega arith)

  -- of the first n slots, just those whose call expires
  pub below_listed : (n j : ℕ) → is_in (closings_below t period n) j ≡ (ltb j n && expires_at t period j)
  unfolding below
  below_listed zero j = rw (le-ltb j 0 (omega arith))
  below_listed (suc n) j =
      has_append (λ c. eqb j c.slot) (closings_below t period n) (here n)
      ∙ rw (below_listed n j, has_element (λ (c : Closing). eqb j c.slot) (expires_at t period n) (closing_at t n)) (by (eqb j n) refl)
    where
      next : (b : Bool) → ltb j n ≡ b → (j ≡ n → ⊥) → b ≡ ltb j (suc n)
      next true q m = sym (lt-ltb j (suc n) (omega (arith, ltb-true j n q)))
      next false q m = sym (le-ltb j (suc n) (omega (arith, ltb-false j n q)))

      by : (b : Bool) → eqb j n ≡ b → ((ltb j n && expires_at t period j) || (expires_at t period n && b)) ≡ (ltb j (suc n) && expires_at t period j)
      by true e = rw (eqb-true j n e, le-ltb n n (omega arith), lt-ltb n (suc n) (omega arith)) (and-true (expires_at t period n))
      by false e = rw (and-false (expires_at t period n), or-false (ltb j n && expires_at t period j)) (ap (λ b. b && expires_at t period j) (next (ltb j n) refl (eqb-false j n e)))

  pub closings_listed : (j : ℕ) → j < slots → is_in (closings_of t period) j ≡ (not (eqb period 0) && expires_at t period j)
  unfolding closings_of
  closings_listed j h = by (eqb period 0)
    where
      by : (b : Bool) → is_in (cond b [] (closings_below t period slots)) j ≡ (not b && expires_at t period j)
      by true = refl
      by false = rw (below_listed slots j, lt-ltb j slots h)

  -- a call that is listed is open, has no connections and has not been refreshed for five periods
  pub listed_expires : (j : ℕ) → j < slots → is_in (closings_of t period) j ≡ true
      → (is_used t.occupied j ≡ true) × (is_idle (call_at t j) ≡ true) × (5 * period ≤ t.time - (call_at t j).refreshed)
  unfolding is_expired
  listed_expires j h e =
      let k = both (not (eqb period 0)) (expires_at t period j) (sym (closings_listed j h) ∙ e) in
      let m = both (is_used t.occupied j) (is_expired t.time period (call_at t j)) k.1 in
      let n = both (leb (5 * period) (t.time - (call_at t j).refreshed)) (is_idle (call_at t j)) m.1 in
      (m.0, n.1, leb-true _ _ n.0)

  -- ---- what is listed stands in some slot

  pub closing_found : (p : Closing → Bool) → has p (closings_of t period) ≡ true
      → (i : ℕ) × (i < slots) × (expires_at t period i ≡ true) × (p (closing_at t i) ≡ true)
  unfolding closings_of
  closing_found p = by (eqb period 0)
    where
      by : (b : Bool) → has p (cond b [] (closings_below t period slots)) ≡ true → (i : ℕ) × (i < slots) × (expires_at t period i ≡ true) × (p (closing_at t i) ≡ true)
      by true h = absurd (true≢false (sym h))
      by false h =
          let f = place_found here p slots (has_true p (closings_below t period slots) h) in
          let k = place_of here p slots in
          let b = both (expires_at t period k) (p (closing_at t k)) (sym (has_element p (expires_at t period k) (closing_at t k)) ∙ f.passes) in
          (k, f.inside, b.0, b.1)

  -- and what stands in a slot is listed
  pub closing_listed : (p : Closing → Bool) (i : ℕ) → i < slots → 0 < period → expires_at t period i ≡ true → p (closing_at t i) ≡ true → has p (closings_of t period) ≡ true
  unfolding closings_of
  closing_listed p i h some e q = rw (ne_eqb period 0 (λ z. omega arith)) (true_has p (closings_below t period slots) (omega (arith, count_at here p i slots h, one)))
    where
      one : count_if p (here i) ≡ 1
      one = count_element p (expires_at t period i) (closing_at t i) ∙ rw (e, q)

  -- ---- slots rise

  -- every slot listed is below a bound
  abbrev Under : ℕ → List Closing → Type 0
  Under n [] = Unit {0}
  Under n (c ∷ l) = (c.slot < n) × Under n l

  under_more : (n : ℕ) (l : List Closing) → Under n l → Under (suc n) l
  under_more n [] h = tt
  under_more n (c ∷ l) h = (omega (arith, h.0), under_more n l h.1)

  rising_more : (n : ℕ) (l : List Closing) → Rising l → Under n l → (c : Closing) → c.slot ≡ n → Rising (l ++ c ∷ [])
  rising_more n [] r u c e = tt
  rising_more n (b ∷ []) r u c e = (omega (arith, u.0), tt)
  rising_more n (b ∷ d ∷ l) r u c e = (r.0, rising_more n (d ∷ l) r.1 u.1 c e)

  under_append : (n : ℕ) (l k : List Closing) → Under n l → Under n k → Under n (l ++ k)
  under_append n [] k a b = b
  under_append n (c ∷ l) k a b = (a.0, under_append n l k a.1 b)

  below_rising : (n : ℕ) → Rising (closings_below t period n) × Under n (closings_below t period n)
  unfolding below element_if
  below_rising zero = (tt, tt)
  below_rising (suc n) = by (expires_at t period n) (below_rising n)
    where
      by : (b : Bool) → Rising (closings_below t period n) × Under n (closings_below t period n)
          → Rising (closings_below t period n ++ element_if b (closing_at t n)) × Under (suc n) (closings_below t period n ++ element_if b (closing_at t n))
      by true h = (
        rising_more n (closings_below t period n) h.0 h.1 (closing_at t n) refl,
        under_append (suc n) (closings_below t period n) (closing_at t n ∷ []) (under_more n (closings_below t period n) h.1) (omega arith, tt),
      )
      by false h = rw (append-nil (closings_below t period n)) (h.0, under_more n (closings_below t period n) h.1)

  pub closings_rising : Rising (closings_of t period)
  unfolding closings_of
  closings_rising = by (eqb period 0)
    where
      by : (b : Bool) → Rising (cond b [] (closings_below t period slots))
      by true = tt
      by false = (below_rising slots).0

-- ---- a call without connections

pub idle_none : (c : Call) → is_idle c ≡ true → held_in (call_four c) ≡ []
unfolding is_idle
idle_none c h = below_nothing (held_place (call_four c)) 4 (λ j l. element_not (is_taken (place_at (call_four c) j)) (connection_at (call_four c) j) (not-true _ (every_at _ 4 h j l)))

-- ---- slots freed whose calls have no connections

module _ (t : Table) (l : List Closing) (n : Inside l) (s : Sized t) (idle : (j : ℕ) → j < slots → is_in l j ≡ true → is_idle (call_at t j) ≡ true) where
  abbrev then : Table
  then = freed_all t l

  held_left : (i : ℕ) → i < slots → held_at then i ≡ held_at t i
  unfolding list_if
  held_left i h = rw (all_used t l n s i, all_call t l n s i) (by (is_used t.occupied i) (is_in l i) refl)
    where
      by : (used gone : Bool) → is_in l i ≡ gone → list_if (used && not gone) (held_in (call_four (cond gone no_call (call_at t i)))) ≡ list_if used (held_in (call_four (call_at t i)))
      by true true e = sym (idle_none (call_at t i) (idle i h e))
      by true false e = refl
      by false gone e = refl

  under_same : below (held_at then) slots ≡ below (held_at t) slots
  under_same = below_ext (held_at then) (held_at t) slots held_left

  pub all_held : held (freed_all t l) ≡ held t
  all_held =
      ap (λ h. h ++ below (standalone_at then) 8) under_same
      ∙ ap (λ (w : Table). below (held_at t) slots ++ below (standalone_at w) 8) (all_else t l)

  -- what is open afterwards was open before, and is the same call
  still_open : (i : ℕ) → is_used then.occupied i ≡ true → (is_used t.occupied i ≡ true) × (call_at then i ≡ call_at t i)
  still_open i u =
      let b = both (is_used t.occupied i) (not (is_in l i)) (sym (all_used t l n s i) ∙ u) in
      (b.0, all_call t l n s i ∙ ap (λ g. cond g no_call (call_at t i)) (not-true (is_in l i) b.1))

  fewer : (p : Entry → Bool) → count_if p (entries then) ≤ count_if p (entries t)
  fewer p =
      omega (
        arith,
        ap (count_if p) (all_entries t l n s),
        count_without p (λ e. is_in l e.slot) (entries t),
        count_le (λ e. not (is_in l e.slot) && p e) p (entries t) (λ e q. (both (not (is_in l e.slot)) (p e) q).1),
      )

  slot_clear : (i : ℕ) → slot_free_clear t i ≡ true → cond (is_used then.occupied i) (call_free_clear (call_at then i)) (call_clear (call_at then i)) ≡ true
  slot_clear i h = rw (all_used t l n s i, all_call t l n s i) (by (is_used t.occupied i) (is_in l i) h)
    where
      by : (used gone : Bool) → cond used (call_free_clear (call_at t i)) (call_clear (call_at t i)) ≡ true
          → cond (used && not gone) (call_free_clear (cond gone no_call (call_at t i))) (call_clear (cond gone no_call (call_at t i))) ≡ true
      by true true h = free_clear
      by true false h = h
      by false true h = free_clear
      by false false h = h

  pub all_kept : Kept t → Kept (freed_all t l)
  unfolding roster_holds
  all_kept k = subst Kept (sym (all_else t l)) kept
    where
      kept : Kept (with_slots t (freed_all t l).occupied (freed_all t l).calls)
      kept = record {
        accepted = k.accepted;
        within = λ i h u. k.within i h (still_open i u).0;
        calls = calls_fewer (total_of t) (roster t) (entries then) (entries t) fewer k.calls;
        once = λ x. omega (arith, ap (λ h. count_if (same_connection x) (h ++ below (standalone_at t) 8)) under_same, k.once x);
        names = λ i h u. let o = still_open i u in rw o.1 (k.names i h o.0);
        refreshes = λ i h u. let o = still_open i u in rw o.1 (k.refreshes i h o.0);
        slots = λ i h. slot_clear i (k.slots i h);
        records = k.records;
      }

-- ---- the time raised

module _ (t : Table) (time : ℕ) where
  pub raised_shape : Shape t → Shape (raised t time)
  raised_shape s = record { calls = s.calls; customers = s.customers; words = s.words; places = s.places; endpoints = s.endpoints; standalone_places = s.standalone_places }

  pub raised_kept : Kept t → Kept (raised t time)
  unfolding roster_holds
  raised_kept k = record {
    accepted = k.accepted;
    within = k.within;
    calls = k.calls;
    once = k.once;
    names = k.names;
    refreshes = λ i h u. omega (arith, k.refreshes i h u);
    slots = k.slots;
    records = k.records;
  }

-- ---- the table that a message finds

module _ (t : Table) (time period : ℕ) where
  abbrev closings : List Closing
  closings = closings_of (raised t time) period

  pub elapsed_form : (elapsed t time period).form ≡ t.form
  unfolding elapsed
  elapsed_form = ap (λ (w : Table). w.form) (all_else (raised t time) closings)

  pub elapsed_time : (elapsed t time period).time ≡ max t.time time
  unfolding elapsed
  elapsed_time = ap (λ (w : Table). w.time) (all_else (raised t time) closings)

  pub elapsed_roster : roster (elapsed t time period) ≡ roster t
  unfolding elapsed
  elapsed_roster = ap roster (all_else (raised t time) closings)

  pub elapsed_last : (sender : ℕ) → last_of (elapsed t time period) sender ≡ last_of t sender
  unfolding elapsed
  elapsed_last sender = ap (λ (w : Table). last_of w sender) (all_else (raised t time) closings)

  -- what the node says of itself: address, epoch and next identifier
  pub elapsed_own : ((elapsed t time period).address ≡ t.address) × ((elapsed t time period).epoch ≡ t.epoch) × ((elapsed t time period).next ≡ t.next)
  unfolding elapsed
  elapsed_own =
      let e = all_else (raised t time) closings in
      (ap (λ (w : Table). w.address) e, ap (λ (w : Table). w.epoch) e, ap (λ (w : Table). w.next) e)

  pub elapsed_shape : Shape t → Shape (elapsed t time period)
  unfolding elapsed
  elapsed_shape s = all_shape (raised t time) closings (closings_inside (raised t time) period) (raised_shape t time s)

  module _ (s : Sized t) where
    sized : Sized (raised t time)
    sized = record { calls = s.calls; words = s.words }

    idle : (j : ℕ) → j < slots → is_in closings j ≡ true → is_idle (call_at (raised t time) j) ≡ true
    idle j h e = (listed_expires (raised t time) period j h e).1

    -- the entries but for those whose slot is listed
    pub elapsed_entries : entries (elapsed t time period) ≡ without (λ e. is_in (closings_of (raised t time) period) e.slot) (entries t)
    unfolding elapsed
    elapsed_entries = all_entries (raised t time) closings (closings_inside (raised t time) period) sized

    -- the same connections
    pub elapsed_held : held (elapsed t time period) ≡ held t
    unfolding elapsed
    elapsed_held = all_held (raised t time) closings (closings_inside (raised t time) period) sized idle

    pub elapsed_kept : Kept t → Kept (elapsed t time period)
    unfolding elapsed
    elapsed_kept k = all_kept (raised t time) closings (closings_inside (raised t time) period) sized idle (raised_kept t time k)

    pub elapsed_used : (j : ℕ) → is_used (elapsed t time period).occupied j ≡ (is_used t.occupied j && not (is_in (closings_of (raised t time) period) j))
    unfolding elapsed
    elapsed_used = all_used (raised t time) closings (closings_inside (raised t time) period) sized

    pub elapsed_call : (j : ℕ) → call_at (elapsed t time period) j ≡ cond (is_in (closings_of (raised t time) period) j) no_call (call_at t j)
    unfolding elapsed
    elapsed_call = all_call (raised t time) closings (closings_inside (raised t time) period) sized

    -- a customer's calls are those left and those listed
    pub elapsed_counted : (a : ℕ) → calls_of (entries t) a ≡ calls_of (entries (elapsed t time period)) a + count_if (λ c. eqb c.address a) (closings_of (raised t time) period)
    unfolding below element_if closings_of
    elapsed_counted a =
        omega (arith, each slots (omega arith), ap (count_if (from a)) (elapsed_entries ∙ without_below gone (open_at t) slots), ap (count_if (λ (c : Closing). eqb c.address a)) listed)
      where
        u : Table
        u = raised t time

        gone : Entry → Bool
        gone e = is_in (closings_of u period) e.slot

        lists : ℕ → List Closing
        lists i = element_if (is_in (closings_of u period) i) (closing_at u i)

        listed : below lists slots ≡ closings_of u period
        listed = by (eqb period 0) refl
          where
            by : (b : Bool) → eqb period 0 ≡ b → below lists slots ≡ cond b [] (closings_below u period slots)
            by true e = below_nothing lists slots (λ i h. element_not _ (closing_at u i) (closings_listed u period i h ∙ rw e))
            by false e = below_ext lists (here u period) slots (λ i h. ap (λ b. element_if b (closing_at u i)) (same i h))
              where
                same : (i : ℕ) → i < slots → is_in (closings_of u period) i ≡ expires_at u period i
                same i h = closings_listed u period i h ∙ ap (λ b. not b && expires_at u period i) e

        at : (i : ℕ) → i < slots → count_if (from a) (open_at t i) ≡ count_if (from a) (without gone (open_at t i)) + count_if (λ c. eqb c.address a) (lists i)
        at i h = by (is_used t.occupied i) (is_in (closings_of u period) i) refl (λ e. (listed_expires u period i h e).0)
          where
            by : (used g : Bool) → is_in (closings_of u period) i ≡ g → (g ≡ true → used ≡ true)
                → count_if (from a) (element_if used (entry_of i (call_at t i)))
                ≡ count_if (from a) (without gone (element_if used (entry_of i (call_at t i)))) + count_if (λ (c : Closing). eqb c.address a) (element_if g (closing_at u i))
            by true true e o = rw e (omega arith)
            by true false e o = rw e (omega arith)
            by false true e o = absurd (true≢false (sym (o refl)))
            by false false e o = refl

        each : (n : ℕ) → n ≤ slots → count_if (from a) (below (open_at t) n) ≡ count_if (from a) (below (λ i. without gone (open_at t i)) n) + count_if (λ c. eqb c.address a) (below lists n)
        each zero h = refl
        each (suc n) h =
            omega (
              arith,
              count_append (from a) (below (open_at t) n) (open_at t n),
              count_append (from a) (below (λ i. without gone (open_at t i)) n) (without gone (open_at t n)),
              count_append (λ (c : Closing). eqb c.address a) (below lists n) (lists n),
              each n (omega arith),
              at n (omega arith),
            )
