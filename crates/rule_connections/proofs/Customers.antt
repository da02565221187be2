-- No connection is held twice where no customer holds one twice: each has one sender, and the senders are the customers.
--
-- In order: a customer's connections are those of its address (`own_part`); every connection is of an address that is
-- listed (`all_listed`); the claim (`customers_once`).
-- Assumes nothing.
use Prim.Native.Nat.{ℕ, zero, suc, ◌<◌}
use native.Mathlib.Nat.{not-suc-le-zero, eq-or-lt_of_le, le_of_suc-le-suc}
use native.Mathlib.Omega.{arith}
use mathlib.Core.Path.{◌≡◌, refl, sym, ap, ap₂, ◌∙◌}
use mathlib.Core.Logic.{⊎_elim}
use mathlib.Core.List.{[], ◌++◌}
use mathlib.Core.Bool.{Bool, true, false, not, ◌&&◌, ◌||◌, and-false, true≢false}
use lib.Dec.{eqb, ltb, leb}
use borrow.Author.Tests.{eq-eqb, eqb-true, ltb-true, ltb-false, not-true, not-false}
use Rattle.lists.specs.Count.{bit, count_if, has, no_two, without}
use Rattle.lists.specs.Below.{list_if, below, every_below, place_of}
use Rattle.lists.specs.Pairs.{pairs_below}
use Rattle.lists.proofs.Tests.{both, eqb_swap}
use Rattle.lists.proofs.Count.{no_bit, has_true, has_false, true_has, count_append, without_append, without_none, without_others}
use Rattle.lists.proofs.Below.{has_element, count_element, list_if_not, below_ext, below_only, count_at, count_nowhere, count_not_element, count_not_list_if, without_below, every_at, every_within}
use Rattle.lists.proofs.Search.{place_found}
use Rattle.lists.proofs.Pairs.{no_two_places}
use Rattle.table.specs.Table.{Table}
use Rattle.table.specs.Total.{slots, total_of}
use Rattle.table.specs.Word.{is_used}
use Rattle.table.specs.Lists.{customer_at, terms_of, listed_at, roster, call_at, entry_of, open_at, entries, Held, Four, call_four, customer_four, place_at, is_taken, connection_at, held_place, held_in, held_at, standalone_at, held}
use Rattle.table.specs.Share.{is_at, is_listed}
use Rattle.table.specs.Rules.{bad_share, same_address, guarantees, acceptable, roster_holds, unlisted, same_lsp, same_connection, holds, senders_listed}
use Rattle.table.proofs.Addresses.{roster_cases}
use Rattle.table.proofs.Names.{alike}
use Rattle.rule_connections.specs.Own.{own_at, own}
use Rattle.rule_connections.proofs.Parts.{part, part_once, parts_once}

abbrev sender_of : Held → ℕ
sender_of x = x.lsp.sender

same_sender : (x y : Held) → same_connection x y ≡ true → sender_of x ≡ sender_of y
unfolding same_lsp
same_sender x y h = by (eqb (sender_of x) (sender_of y)) refl
  where
    by : (b : Bool) → eqb (sender_of x) (sender_of y) ≡ b → sender_of x ≡ sender_of y
    by true e = eqb-true (sender_of x) (sender_of y) e
    by false e = absurd (true≢false (sym h ∙ rw (e, and-false (eqb x.lsp.endpoint y.lsp.endpoint))))

-- ---- a four's part is all of it or nothing

-- all connections of a four are of one sender
none_in : (f : Four) (p : Held → Bool) → ((j : ℕ) → p (connection_at f j) ≡ false) → count_if p (held_in f) ≡ 0
none_in f p h = count_nowhere p (held_place f) 4 (λ j l. count_not_element p (is_taken (place_at f j)) (connection_at f j) (λ _. h j))

four_part : (f : Four) (a : ℕ) → part sender_of a (held_in f) ≡ list_if (eqb f.sender a) (held_in f)
unfolding list_if
four_part f a = by (eqb f.sender a) refl
  where
    by : (b : Bool) → eqb f.sender a ≡ b → part sender_of a (held_in f) ≡ list_if b (held_in f)
    by true e = without_none (λ x. not (eqb (sender_of x) a)) (held_in f) (none_in f (λ x. not (eqb (sender_of x) a)) (λ j. ap not e))
    by false e = without_others (λ x. eqb (sender_of x) a) (held_in f) (none_in f (λ x. eqb (sender_of x) a) (λ j. e))

list_part : (u : Bool) (f : Four) (a : ℕ) → part sender_of a (list_if u (held_in f)) ≡ list_if (u && eqb f.sender a) (held_in f)
unfolding list_if
list_part true f a = four_part f a
list_part false f a = refl

-- ---- customers of one address are one

pairs_at : (p : ℕ → ℕ → Bool) (n : ℕ) → pairs_below p n ≡ true → (i j : ℕ) → i < n → j < i → p i j ≡ true
unfolding pairs_below
pairs_at p zero h i j l k = absurd (not-suc-le-zero l)
pairs_at p (suc n) h i j l k =
    let s = both (pairs_below p n) (every_below (p n) n) h in
    ⊎_elim
    (λ (e : i ≡ n). rw e (every_at (p n) n s.1 j (omega arith)))
    (λ (b : i < n). pairs_at p n s.0 i j b k)
    (eq-or-lt_of_le (le_of_suc-le-suc l))

module _ (t : Table) (accepted : roster_holds t ≡ true) where
  abbrev address_at : ℕ → ℕ
  address_at k = (customer_at t k).address

  roster_apart : no_two same_address (roster t) ≡ true
  unfolding acceptable
  roster_apart =
      let r = roster t in
      ⊎_elim
      (λ (e : r ≡ []). rw e)
      (λ a.
      let b = (both (not (has (bad_share (total_of t)) r) && no_two same_address r) (leb (guarantees r) (total_of t)) a).0 in
      (both (not (has (bad_share (total_of t)) r)) (no_two same_address r) b).1)
      (roster_cases t accepted)

  earlier_apart : (i j : ℕ) → i < 8 → j < i → ltb i t.listed ≡ true → ltb j t.listed ≡ true → eqb (address_at j) (address_at i) ≡ false
  earlier_apart i j h l u v =
      let pairs = sym (no_two_places same_address (λ k. ltb k t.listed) (λ k. terms_of (customer_at t k)) 8) ∙ roster_apart in
      not-true _ (rw (u, v) at (pairs_at _ 8 pairs i j h l))

  addresses_apart : (j k : ℕ) → j < 8 → k < 8 → (j ≡ k → ⊥) → ltb j t.listed ≡ true → ltb k t.listed ≡ true → eqb (address_at j) (address_at k) ≡ false
  addresses_apart j k h l n u v = by (ltb j k) refl
    where
      by : (b : Bool) → ltb j k ≡ b → eqb (address_at j) (address_at k) ≡ false
      by true e = earlier_apart k j l (ltb-true j k e) v u
      by false e =
          let before = ⊎_elim (λ (q : k ≡ j). absurd (n (sym q))) (λ (q : k < j). q) (eq-or-lt_of_le (ltb-false j k e)) in
          eqb_swap (address_at j) (address_at k) ∙ earlier_apart j k h before u v

  -- what customer k holds is what is held of its address
  own_part : (k : ℕ) → k < 8 → ltb k t.listed ≡ true → part sender_of (address_at k) (held t) ≡ own t k
  unfolding list_if
  own_part k h u =
      without_append other (below (held_at t) slots) (below (standalone_at t) 8)
      ∙ ap₂ ◌++◌
      (without_below other (held_at t) slots ∙ below_ext _ (own_at t (address_at k)) slots (λ i l. list_part (is_used t.occupied i) (call_four (call_at t i)) (address_at k)))
      (without_below other (standalone_at t) 8 ∙ below_only (λ j. without other (standalone_at t j)) k 8 h others ∙ mine)
    where
      other : Held → Bool
      other x = not (eqb (sender_of x) (address_at k))

      others : (j : ℕ) → j < 8 → (j ≡ k → ⊥) → without other (standalone_at t j) ≡ []
      others j l n = list_part (ltb j t.listed) (customer_four (customer_at t j)) (address_at k) ∙ list_if_not _ _ (by (ltb j t.listed) refl)
        where
          by : (b : Bool) → ltb j t.listed ≡ b → (b && eqb (address_at j) (address_at k)) ≡ false
          by true e = addresses_apart j k l h n e u
          by false e = refl

      mine : without other (standalone_at t k) ≡ held_in (customer_four (customer_at t k))
      mine = list_part (ltb k t.listed) (customer_four (customer_at t k)) (address_at k) ∙ rw (u, eq-eqb (address_at k) (address_at k) refl)

  -- ---- every sender is a customer

  customer_listed : (k : ℕ) → k < 8 → ltb k t.listed ≡ true → is_listed (roster t) (address_at k) ≡ true
  customer_listed k h u =
      let is = is_at (address_at k) in
      let here : count_if is (listed_at t k) ≡ 1 = count_element is (ltb k t.listed) (terms_of (customer_at t k)) ∙ rw (u, eq-eqb (address_at k) (address_at k) refl) in
      true_has is (roster t) (omega (arith, count_at (listed_at t) is k 8 h))

  abbrev stranger : Held → Bool
  stranger x = not (is_listed (roster t) (sender_of x))

  no_strangers : (u : Bool) (f : Four) → (u ≡ true → is_listed (roster t) f.sender ≡ true) → count_if stranger (list_if u (held_in f)) ≡ 0
  no_strangers u f h = count_not_list_if stranger u (held_in f) (λ e. none_in f stranger (λ j. ap not (h e)))

  module _ (listed : holds senders_listed t ≡ true) where
    caller_listed : (i : ℕ) → i < slots → is_used t.occupied i ≡ true → is_listed (roster t) (call_at t i).sender ≡ true
    caller_listed i h u =
        let not_in = unlisted (roster t) in
        let none = has_false not_in (entries t) (not-true _ listed) in
        let here : count_if not_in (open_at t i) ≡ bit (not (is_listed (roster t) (call_at t i).sender)) =
        count_element not_in (is_used t.occupied i) (entry_of i (call_at t i)) ∙ rw u in
        not-false _ (no_bit _ (omega (arith, count_at (open_at t) not_in i slots h)))

    all_listed : count_if stranger (held t) ≡ 0
    all_listed =
        omega (
          arith,
          count_append stranger (below (held_at t) slots) (below (standalone_at t) 8),
          count_nowhere stranger (held_at t) slots (λ i l. no_strangers (is_used t.occupied i) (call_four (call_at t i)) (caller_listed i l)),
          count_nowhere stranger (standalone_at t) 8 (λ k l. no_strangers (ltb k t.listed) (customer_four (customer_at t k)) (customer_listed k l)),
        )

    -- ---- customer by customer

    abbrev once_at : ℕ → Bool
    once_at k = not (ltb k t.listed) || no_two same_connection (own t k)

    pub customers_once : every_below once_at 8 ≡ no_two same_connection (held t)
    customers_once = alike _ _ all each
      where
        of : every_below once_at 8 ≡ true → (a : ℕ) → is_listed (roster t) a ≡ true → no_two same_connection (part sender_of a (held t)) ≡ true
        of h a p =
            let k = place_of (listed_at t) (is_at a) 8 in
            let f = place_found (listed_at t) (is_at a) 8 (has_true (is_at a) (roster t) p) in
            let here = sym (has_element (is_at a) (ltb k t.listed) (terms_of (customer_at t k))) ∙ f.passes in
            let u = both (ltb k t.listed) (eqb a (address_at k)) here in
            rw (eqb-true a (address_at k) u.1, own_part k f.inside u.0) (rw u.0 at (every_at once_at 8 h k f.inside))

        all : every_below once_at 8 ≡ true → no_two same_connection (held t) ≡ true
        all h = parts_once same_connection sender_of same_sender (is_listed (roster t)) (held t) all_listed (of h)

        by : no_two same_connection (held t) ≡ true → (k : ℕ) → k < 8 → (b : Bool) → ltb k t.listed ≡ b → (not b || no_two same_connection (own t k)) ≡ true
        by h k l true u = rw (← (own_part k l u)) (part_once same_connection sender_of (address_at k) (held t) h)
        by h k l false u = refl

        each : no_two same_connection (held t) ≡ true → every_below once_at 8 ≡ true
        each h = every_within once_at 8 (λ k l. by h k l (ltb k t.listed) refl)
