-- Whether a connection fits: it does not where it is held already, or its four are full; where its call stands in a slot
-- of a table that keeps the rules, that slot has all of its four (`fits_there`).
-- Assumes nothing.
use Prim.Native.Nat.{ℕ, zero, suc, ◌≤◌, ◌<◌}
use native.Mathlib.Nat.{eq-or-lt_of_le, le_of_suc-le-suc, not-suc-le-zero}
use native.Mathlib.Omega.{arith}
use mathlib.Core.Path.{◌≡◌, refl, sym, ◌∙◌}
use mathlib.Core.Logic.{⊎_elim}
use mathlib.Core.List.{List}
use mathlib.Core.Bool.{Bool, true, false, not, ◌&&◌, and-false, true≢false}
use lib.Dec.{ltb, eqb}
use borrow.Author.Tests.{eq-eqb, ne_eqb, eqb-true, lt-ltb, le-ltb, not-false}
use Rattle.lists.specs.Count.{bit, count_if, has}
use Rattle.lists.specs.Below.{below, element_if}
use Rattle.lists.proofs.Tests.{both}
use Rattle.lists.proofs.Count.{true_has, false_has, some_bit, count_append, one_bit}
use Rattle.lists.proofs.Below.{count_element, count_list_if, count_not_list_if, count_at, count_none, count_below_lem, count_nowhere}
use Rattle.lists.proofs.Shown.{count_shown}
use Rattle.table.specs.Table.{Table}
use Rattle.table.specs.Total.{slots}
use Rattle.table.specs.Word.{is_used}
use Rattle.table.specs.Lists.{customer_at, terms_of, roster, call_at, ids_of, entry_of, Entry, open_at, entries, Held, call_four, customer_four, place_at, is_taken, connection_at, held_in, held_at, standalone_at, held}
use Rattle.table.specs.Share.{is_listed}
use Rattle.table.specs.Rules.{same_connection, rules_hold}
use Rattle.spec_changes.specs.Calls.{slot_of}
use Rattle.spec_changes.specs.Connections.{same_four, is_under, is_call_of, added_under, added, call_missing}
use Rattle.spec_changes.proofs.Added.{under_four}
use Rattle.spec_changes.proofs.Everywhere.{none_in}
use Rattle.spec_changes.proofs.Kept.{Kept}
use Rattle.spec_changes.proofs.Slot.{found_slot}
use Rattle.spec_changes.proofs.Tables.{added_under_lem}
use Rattle.spec_changes.proofs.Told.{rules_kept}
use Rattle.spec_changes.proofs.Valid.{ids_named}
use Rattle.spec_checkpoint.specs.Salvage.{connection_fits}
use Rattle.spec_checkpoint.proofs.AllKept.{one_place}
use Rattle.spec_checkpoint.proofs.Fours.{at_most, rows_bound, one_call, elsewhere, under_none, standalone_none, call_sender}
use Rattle.checkpoint_connections.specs.Cells.{is_call_in, CallIn}

-- where one place alone has what passes a test
only_at : {A : Type 0} (f : ℕ → List A) (p : A → Bool) (i n : ℕ) → i < n → ((j : ℕ) → j < n → (j ≡ i → ⊥) → count_if p (f j) ≡ 0)
    → count_if p (below f n) ≡ count_if p (f i)
only_at f p i zero l h = absurd (not-suc-le-zero l)
only_at f p i (suc n) l h =
    ⊎_elim
    (λ (e : i ≡ n). rw e (omega (arith, count_below_lem f p n, count_nowhere p f n (λ j b. h j (omega arith) (λ (q : j ≡ i). omega arith)))))
    (λ (b : i < n). omega (arith, count_below_lem f p n, only_at f p i n b (λ j c q. h j (omega arith) q), h n (omega arith) (λ (q : n ≡ i). omega arith)))
    (eq-or-lt_of_le (le_of_suc-le-suc l))

module _ (t : Table) (x : Held) (i : ℕ) where
  not_there : (j : ℕ) → (j ≡ i → ⊥) → count_if (is_call_in x i) (open_at t j) ≡ 0
  not_there j n = rw (count_element (is_call_in x i) (is_used t.occupied j) (entry_of j (call_at t j)), ne_eqb i j (λ (e : i ≡ j). n (sym e)), and-false (is_used t.occupied j))

  -- a slot has a connection's call
  pub call_in : i < slots → has (is_call_in x i) (entries t) ≡ (is_used t.occupied i && is_under (ids_of (call_at t i)) x)
  call_in l =
      let e : count_if (is_call_in x i) (entries t) ≡ bit (is_used t.occupied i && (eqb i i && is_under (ids_of (call_at t i)) x)) =
      only_at (open_at t) (is_call_in x i) i slots l (λ j _ n. not_there j n) ∙ count_element (is_call_in x i) (is_used t.occupied i) (entry_of i (call_at t i)) in
      rw (e, eq-eqb i i refl) (some_bit (is_used t.occupied i && is_under (ids_of (call_at t i)) x))

  pub call_out : slots ≤ i → has (is_call_in x i) (entries t) ≡ false
  call_out l = false_has (is_call_in x i) (entries t) (count_nowhere (is_call_in x i) (open_at t) slots (λ j b. not_there j (λ (e : j ≡ i). omega arith)))

module _ (t : Table) (x : Held) where
  -- ---- it does not fit

  pub unfit_held : 0 < count_if (same_connection x) (held t) → connection_fits t x ≡ false
  unfolding connection_fits
  unfit_held h = rw (true_has (same_connection x) (held t) h, and-false (is_listed (roster t) x.lsp.sender))

  pub unfit_full : 4 ≤ count_if (same_four x) (held t) → connection_fits t x ≡ false
  unfolding connection_fits
  unfit_full h = rw (le-ltb _ 4 h, and-false (is_listed (roster t) x.lsp.sender && not (has (same_connection x) (held t)) && not (call_missing (entries t) x)))

  pub unfit_missing : eqb x.call 0 ≡ false → has (is_call_of x) (entries t) ≡ false → connection_fits t x ≡ false
  unfolding connection_fits
  unfit_missing n h = rw (n, h, and-false (is_listed (roster t) x.lsp.sender && not (has (same_connection x) (held t))))

  pub unfit_unlisted : is_listed (roster t) x.lsp.sender ≡ false → connection_fits t x ≡ false
  unfolding connection_fits
  unfit_unlisted h = rw h

  -- what stands with the customers is held
  pub unfit_alone : 4 ≤ count_if (same_four x) (below (standalone_at t) 8) → connection_fits t x ≡ false
  unfit_alone h = unfit_full (omega (arith, count_append (same_four x) (below (held_at t) slots) (below (standalone_at t) 8)))

  -- ---- its call stands in a slot

  module _ (i : ℕ) (inside : i < slots) (used : is_used t.occupied i ≡ true) where
    here : (p : Held → Bool) → count_if p (held_at t i) ≡ count_if p (held_in (call_four (call_at t i)))
    here p = rw (count_list_if p (is_used t.occupied i) (held_in (call_four (call_at t i))), used)

    -- what stands there is held
    pub slot_within : (p : Held → Bool) → count_if p (held_in (call_four (call_at t i))) ≤ count_if p (held t)
    slot_within p = omega (arith, here p, count_at (held_at t) p i slots inside, count_append p (below (held_at t) slots) (below (standalone_at t) 8))

    module _ (own : is_under (ids_of (call_at t i)) x ≡ true) where
      -- all that stand there count among its four
      pub all_own : count_if (same_four x) (held_in (call_four (call_at t i))) ≡ count_if (λ y. true) (held_in (call_four (call_at t i)))
      all_own = count_shown (λ j. is_taken (place_at (call_four (call_at t i)) j)) (connection_at (call_four (call_at t i))) (same_four x) (λ y. true) true 4 (under_four x (call_at t i) i own)

      called : 0 < count_if (is_call_of x) (open_at t i)
      called = rw (count_element (is_call_of x) (is_used t.occupied i) (entry_of i (call_at t i)), used, own) (omega arith)

      module _ (k : Kept t) where
        -- a call's ID is not 0
        pub named : x.call ≡ 0 → ⊥
        named e =
            let some = (ids_named (call_at t i) (k.names i inside used)).some in
            let m = both (eqb x.call (call_at t i).id && eqb x.lsp.endpoint (call_at t i).endpoint) (eqb x.lsp.sender (call_at t i).sender) own in
            let n = both (eqb x.call (call_at t i).id) (eqb x.lsp.endpoint (call_at t i).endpoint) m.0 in
            omega (arith, eqb-true x.call (call_at t i).id n.0, some)

        pub slot_is : i ≡ slot_of t (is_call_of x)
        slot_is =
            let all : 0 < count_if (is_call_of x) (entries t) = omega (arith, called, count_at (open_at t) (is_call_of x) i slots inside) in
            let f = found_slot t (is_call_of x) all in
            let j = slot_of t (is_call_of x) in
            one_place (open_at t) (is_call_of x) i j slots inside f.0 called
            (rw (count_element (is_call_of x) (is_used t.occupied j) (entry_of j (call_at t j)), f.1, f.2) (omega arith))
            (one_call t k x)

        -- no other slot has one of its four
        other : (j : ℕ) → j < slots → (j ≡ i → ⊥) → count_if (same_four x) (held_at t j) ≡ 0
        other j l n =
            count_not_list_if (same_four x) (is_used t.occupied j) (held_in (call_four (call_at t j)))
            (λ u. none_in (same_four x) (call_four (call_at t j)) (λ m _ _. elsewhere t k x named (call_at t j) (by u (is_call_of x (entry_of j (call_at t j))) refl) m))
          where
            by : is_used t.occupied j ≡ true → (b : Bool) → is_call_of x (entry_of j (call_at t j)) ≡ b → b ≡ false
            by u false e = refl
            by u true e =
                absurd (n (one_place (open_at t) (is_call_of x) j i slots l inside
                (rw (count_element (is_call_of x) (is_used t.occupied j) (entry_of j (call_at t j)), u, e) (omega arith))
                called (one_call t k x)))

        four_is : count_if (same_four x) (held t) ≡ count_if (λ y. true) (held_in (call_four (call_at t i)))
        four_is =
            omega (
              arith,
              count_append (same_four x) (below (held_at t) slots) (below (standalone_at t) 8),
              standalone_none t k x named,
              only_at (held_at t) (same_four x) i slots inside other,
              here (same_four x),
              all_own,
            )

        -- its sender is the call's, who is listed
        known : is_listed (roster t) x.lsp.sender ≡ true
        known =
            let m = both (eqb x.call (call_at t i).id && eqb x.lsp.endpoint (call_at t i).endpoint) (eqb x.lsp.sender (call_at t i).sender) own in
            rw (eqb-true x.lsp.sender (call_at t i).sender m.1) (not-false _ (call_sender t k i inside used))

        -- there, it fits where it is held nowhere
        pub fits_there : count_if (λ y. true) (held_in (call_four (call_at t i))) < 4 → has (same_connection x) (held t) ≡ false → connection_fits t x ≡ true
        unfolding connection_fits
        fits_there room new =
            rw (
              known,
              new,
              true_has (is_call_of x) (entries t) (omega (arith, called, count_at (open_at t) (is_call_of x) i slots inside)),
              ne_eqb x.call 0 named,
              lt-ltb (count_if (same_four x) (held t)) 4 (omega (arith, four_is, room)),
            )

  -- where its call is found: full, or with room
  module _ (i : ℕ) (c : CallIn t x i) where
    pub unfit_there : 4 ≤ count_if (λ y. true) (held_in (call_four (call_at t i))) → connection_fits t x ≡ false
    unfit_there h = unfit_full (omega (arith, all_own i c.inside c.used c.own, slot_within i c.inside c.used (same_four x)))

    module _ (rules : rules_hold t ≡ true) where
      pub fits_found : count_if (λ y. true) (held_in (call_four (call_at t i))) < 4 → has (same_connection x) (held t) ≡ false → connection_fits t x ≡ true
      fits_found = fits_there i c.inside c.used c.own (rules_kept t rules)

      pub added_found : added_under t i x.lsp ≡ added t x
      added_found =
          let k = rules_kept t rules in
          added_under_lem t x i (ne_eqb x.call 0 (named i c.inside c.used c.own k)) (slot_is i c.inside c.used c.own k)

  -- ---- with Call ID 0

  -- all of its four stand with the customers
  pub fits_alone : rules_hold t ≡ true → x.call ≡ 0 → is_listed (roster t) x.lsp.sender ≡ true → has (same_connection x) (held t) ≡ false
      → count_if (same_four x) (below (standalone_at t) 8) < 4 → connection_fits t x ≡ true
  unfolding connection_fits
  fits_alone rules none known new room =
      rw (
        known,
        new,
        eq-eqb x.call 0 none,
        lt-ltb (count_if (same_four x) (held t)) 4 (omega (arith, count_append (same_four x) (below (held_at t) slots) (below (standalone_at t) 8), under_none t (rules_kept t rules) x none, room)),
      )

-- ---- how many are held

-- one at most in each place
most_below : {A : Type 0} (u : ℕ → Bool) (y : ℕ → A) (n : ℕ) → count_if (λ x. true) (below (λ i. element_if (u i) (y i)) n) ≤ n
most_below u y zero = omega (arith, count_none (λ i. element_if (u i) (y i)) (λ x. true))
most_below u y (suc n) =
    omega (arith, count_below_lem (λ i. element_if (u i) (y i)) (λ x. true) n, count_element (λ x. true) (u n) (y n), one_bit (u n && true), most_below u y n)

-- at most as many as there are places
pub held_most : (t : Table) → count_if (λ y. true) (held t) ≤ 832
held_most t =
    omega (
      arith,
      count_append (λ y. true) (below (held_at t) slots) (below (standalone_at t) 8),
      rows_bound (λ y. true) (λ e. true) (is_used t.occupied) (λ i. held_in (call_four (call_at t i))) call slots
          (λ i l u. at_most (λ y. true) (call_four (call_at t i)) true (λ e. never e)),
      most_below (is_used t.occupied) call slots,
      rows_bound (λ y. true) (λ e. true) (λ i. ltb i t.listed) (λ i. held_in (customer_four (customer_at t i))) (λ i. terms_of (customer_at t i)) 8
          (λ i l u. at_most (λ y. true) (customer_four (customer_at t i)) true (λ e. never e)),
      most_below (λ i. ltb i t.listed) (λ i. terms_of (customer_at t i)) 8,
    )
  where
    call : ℕ → Entry
    call i = entry_of i (call_at t i)

    never : {P : Type 0} → true ≡ false → P
    never e = absurd (true≢false e)
