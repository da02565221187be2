-- All words of a slot, of a roster record and of the table are zero.
-- Assumes nothing.
use Prim.Native.Nat.{ℕ, ◌+◌, ◌*◌, ◌-◌, ◌<◌}
use native.Mathlib.Omega.{arith}
use mathlib.Core.Path.{◌≡◌, refl, sym, ap, ap₂, ◌∙◌}
use mathlib.Core.List.{List, [], ◌∷◌}
use mathlib.Core.Bool.{Bool, true, false, ◌&&◌}
use lib.Dec.{eqb}
use lib.Bits.{bit_or, and_le_l, and_le_r, or_add_and}
use lib.ListN.{get_or, set, replicate, length-replicate}
use lib.Seq.{get_or-set_same, get_or-set_other}
use borrow.Author.Tests.{eq-eqb, ne_eqb, eqb-true, eqb-false}
use Rattle.numbers.specs.Search.{zeros_at}
use Rattle.lists.specs.Below.{below, every_below}
use Rattle.lists.proofs.Tests.{both}
use Rattle.lists.proofs.Below.{below_ext, every_within, every_at, every_same, every_rows}
use Rattle.table.specs.Total.{slots}
use Rattle.table.specs.Lists.{call_at}
use Rattle.table.specs.Zeros.{no_place, no_call, no_customer, empty_table}
use Rattle.table.specs.Rules.{place_clear, call_clear, customer_clear}
use Rattle.table.specs.Words.{name_at_word, place_at_word, places_at_word, call_at_word, customer_at_word, customers_of, slots_of, occupied_of, customer_start, call_start, table_of, word_count}
use Rattle.table.proofs.Cells.{call_at_lem, call_same, customer_same, place_at_lem, endpoint_at_lem}
use Rattle.table.proofs.Names.{alike}
use Rattle.table.proofs.Told.{call_told, customer_told}
use Rattle.table_words.proofs.NameBytes.{zero_get, name_long, zeros_drop}

-- two words joined are zero where both are
pub joined_zero : (x y : ℕ) → eqb (bit_or x y) 0 ≡ (eqb x 0 && eqb y 0)
joined_zero x y = by (eqb x 0) (eqb y 0) refl refl
  where
    by : (a b : Bool) → eqb x 0 ≡ a → eqb y 0 ≡ b → eqb (bit_or x y) 0 ≡ (a && b)
    by true true p q = eq-eqb (bit_or x y) 0 (omega (arith, or_add_and x y, eqb-true x 0 p, eqb-true y 0 q))
    by true false p q = ne_eqb (bit_or x y) 0 (λ e. eqb-false y 0 q (omega (arith, or_add_and x y, and_le_l x y, e)))
    by false b p q = ne_eqb (bit_or x y) 0 (λ e. eqb-false x 0 p (omega (arith, or_add_and x y, and_le_r x y, e)))

-- ---- rows of zeros

pub call_none_lem : call_at_word (replicate 32 0) 0 ≡ no_call
unfolding below no_call
call_none_lem = refl

customer_none : customer_at_word (replicate 26 0) 0 ≡ no_customer
unfolding below no_customer
customer_none = refl

call_clear_lem : call_clear no_call ≡ true
unfolding call_clear no_call place_clear zeros_at every_below
call_clear_lem = refl

customer_clear_lem : customer_clear no_customer ≡ true
unfolding customer_clear no_customer place_clear every_below
customer_clear_lem = refl

-- words that are zero are a call of zeros, a customer of zeros
module _ (w : List ℕ) (b : ℕ) where
  call_zeros : ((k : ℕ) → k < 32 → get_or w (b + k) 0 ≡ 0) → call_at_word w b ≡ no_call
  call_zeros h = call_same w (replicate 32 0) b 0 (λ k l. h k l ∙ sym (zero_get 32 (0 + k))) ∙ call_none_lem

  customer_zeros : ((k : ℕ) → k < 26 → get_or w (b + k) 0 ≡ 0) → customer_at_word w b ≡ no_customer
  customer_zeros h = customer_same w (replicate 26 0) b 0 (λ k l. h k l ∙ sym (zero_get 26 (0 + k))) ∙ customer_none

-- ---- the rule's words, the other way

places_none : below (λ j. no_place ∷ []) 4 ≡ replicate 4 no_place
unfolding below
places_none = refl

endpoints_none : below (λ (j : ℕ). replicate {A = ℕ} 1 0) 4 ≡ replicate 4 0
unfolding below
endpoints_none = refl

place_none : (w : List ℕ) (b : ℕ) → place_clear (place_at_word w b) ≡ true → place_at_word w b ≡ no_place
unfolding place_clear
place_none w b h =
    let a = both _ _ h in
    let c = both _ _ a.0 in
    let d = both _ _ c.0 in
    rw (eqb-true (get_or w b 0) 0 d.0, eqb-true (get_or w (b + 1) 0) 0 d.1, eqb-true (get_or w (b + 2) 0) 0 c.1, eqb-true (get_or w (b + 3) 0) 0 a.1)

four_none : (w : List ℕ) (b : ℕ) → every_below (λ j. place_clear (get_or (places_at_word w b) j no_place)) 4 ≡ true → places_at_word w b ≡ replicate 4 no_place
four_none w b h =
    below_ext _ _ 4
    (λ j l. ap (λ p. p ∷ []) (place_none w (b + 4 * j) (ap place_clear (sym (place_at_lem w b j l)) ∙ every_at (λ j. place_clear (get_or (places_at_word w b) j no_place)) 4 h j l)))
    ∙ places_none

module _ (w : List ℕ) (b : ℕ) where
  z : (k : ℕ) → eqb (get_or w k 0) 0 ≡ true → get_or w k 0 ≡ 0
  z k = eqb-true (get_or w k 0) 0

  clear_call : call_clear (call_at_word w b) ≡ true → call_at_word w b ≡ no_call
  unfolding call_clear no_call
  clear_call h =
      let a = both _ _ h in
      let n = both _ _ a.0 in
      let size = both _ _ n.0 in
      let id = both _ _ size.0 in
      let sender = both _ _ id.0 in
      let endpoint = both _ _ sender.0 in
      let identifier = both _ _ endpoint.0 in
      let epoch = both _ _ identifier.0 in
      let made = both _ _ epoch.0 in
      let name : name_at_word w (b + 8) ≡ replicate 32 0 = zeros_drop (name_at_word w (b + 8)) 0 32 (sym (name_long w (b + 8))) n.1 in
      let places : places_at_word w (b + 16) ≡ replicate 4 no_place = four_none w (b + 16) a.1 in
      rw (
        z b endpoint.1,
        z (b + 1) sender.1,
        z (b + 2) made.1,
        z (b + 3) epoch.1,
        z (b + 4) identifier.1,
        z (b + 5) id.1,
        z (b + 6) made.0,
        z (b + 7) size.1,
        name,
        places,
      )

  clear_customer : customer_clear (customer_at_word w b) ≡ true → customer_at_word w b ≡ no_customer
  unfolding customer_clear no_customer
  clear_customer h =
      let a = both _ _ h in
      let p = both _ _ a.0 in
      let identifier = both _ _ p.0 in
      let epoch = both _ _ identifier.0 in
      let kept = both _ _ epoch.0 in
      let limit = both _ _ kept.0 in
      let address = both _ _ limit.0 in
      let ends : (customer_at_word w b).endpoints ≡ replicate 4 0 =
      below_ext _ _ 4
      (λ j l. ap (λ (x : ℕ). x ∷ []) (sym (endpoint_at_lem w b j l) ∙ eqb-true _ _ (every_at (λ j. eqb (get_or (customer_at_word w b).endpoints j 0) 0) 4 a.1 j l)))
      ∙ endpoints_none in
      let places : places_at_word w (b + 10) ≡ replicate 4 no_place = four_none w (b + 10) p.1 in
      rw (
        z b address.0,
        z (b + 1) address.1,
        z (b + 2) limit.1,
        z (b + 3) kept.1,
        z (b + 4) epoch.1,
        z (b + 5) identifier.1,
        ends,
        places,
      )

module _ (w : List ℕ) (b : ℕ) where
  pub clear_call_words : every_below (λ k. eqb (get_or w (b + k) 0) 0) 32 ≡ call_clear (call_at_word w b)
  clear_call_words =
      alike _ _
      (λ h. ap call_clear (call_zeros w b (λ k l. eqb-true _ _ (every_at (λ k. eqb (get_or w (b + k) 0) 0) 32 h k l))) ∙ call_clear_lem)
      (λ h. every_within _ 32 (λ k l. eq-eqb _ _ (call_told w [] b (clear_call w b h ∙ sym (call_zeros [] b (λ k l. refl))) k l)))

  pub clear_customer_words : every_below (λ k. eqb (get_or w (b + k) 0) 0) 26 ≡ customer_clear (customer_at_word w b)
  clear_customer_words =
      alike _ _
      (λ h. ap customer_clear (customer_zeros w b (λ k l. eqb-true _ _ (every_at (λ k. eqb (get_or w (b + k) 0) 0) 26 h k l))) ∙ customer_clear_lem)
      (λ h. every_within _ 26 (λ k l. eq-eqb _ _ (customer_told w [] b (clear_customer w b h ∙ sym (customer_zeros [] b (λ k l. refl))) k l)))

-- the words of the slots from n on stand in one row
pub clear_calls_words : (w : List ℕ) (n : ℕ)
    → every_below (λ k. eqb (get_or w (call_start n + k) 0) 0) (32 * (slots - n)) ≡ every_below (λ j. call_clear (call_at (table_of w) (n + j))) (slots - n)
clear_calls_words w n =
    every_rows (λ k. eqb (get_or w (call_start n + k) 0) 0) 32 (slots - n)
    ∙ every_same _ _ (slots - n)
    (λ j l.
    every_same _ _ 32 (λ k m. ap (λ (b : ℕ). eqb (get_or w b 0) 0) (omega arith))
    ∙ clear_call_words w (call_start (n + j))
    ∙ ap call_clear (sym (call_at_lem w (n + j) (omega arith))))

-- ---- the whole table

rows_eight : {A : Type 0} (x : A) → below (λ k. x ∷ []) 8 ≡ replicate 8 x
unfolding below
rows_eight x = refl

rows_slots : {A : Type 0} (x : A) → below (λ k. x ∷ []) slots ≡ replicate slots x
unfolding below
rows_slots x = refl

pub table_zeroed : (n : ℕ) → n ≡ word_count → table_of (set (replicate n 0) 2 1) ≡ empty_table
unfolding empty_table
table_zeroed n lw =
    let w = replicate {A = ℕ} n 0 in
    let v = set w 2 1 in
    let next : get_or v 2 0 ≡ 1 = get_or-set_same w 2 1 0 (omega (arith, length-replicate {A = ℕ} n 0)) in
    let other : (k : ℕ) → (k ≡ 2 → ⊥) → get_or v k 0 ≡ 0 = λ k m. get_or-set_other w 2 k 1 0 m ∙ zero_get n k in
    let os : occupied_of v ≡ replicate 4 0 =
    below_ext _ _ 4 (λ k l. ap₂ (λ (x y : ℕ). (x + y * 4294967296) ∷ []) (other (6 + 2 * k) (λ e. omega arith)) (other (7 + 2 * k) (λ e. omega arith))) ∙ endpoints_none in
    let cs : customers_of v ≡ replicate 8 no_customer =
    below_ext _ _ 8 (λ k l. ap (λ x. x ∷ []) (customer_zeros v (customer_start k) (λ j m. other (customer_start k + j) (λ e. omega arith)))) ∙ rows_eight no_customer in
    let ks : slots_of v ≡ replicate slots no_call =
    below_ext _ _ slots (λ i l. ap (λ x. x ∷ []) (call_zeros v (call_start i) (λ j m. other (call_start i + j) (λ e. omega arith)))) ∙ rows_slots no_call in
    rw (
      other 0 (λ e. omega arith),
      other 1 (λ e. omega arith),
      next,
      other 3 (λ e. omega arith),
      other 4 (λ e. omega arith),
      other 5 (λ e. omega arith),
      os,
      cs,
      ks,
    )
