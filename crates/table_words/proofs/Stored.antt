-- Words stored: the table with another head, with another call in a slot, with another customer, with another connection in
-- a four, with another refresh of a call, with other terms of a customer, with another last MESSAGE_ID.
-- Assumes nothing.
use Prim.Native.Nat.{ℕ, ◌+◌, ◌*◌, ◌≤◌, ◌<◌}
use native.Mathlib.Omega.{arith}
use mathlib.Core.Path.{◌≡◌, refl, sym, ap, ap₂, ◌∙◌}
use mathlib.Core.List.{List, [], ◌∷◌}
use mathlib.Core.Bool.{Bool, true, false, cond}
use lib.Dec.{eqb}
use lib.ListN.{length, get_or, set, length-set}
use lib.Seq.{get_or-set_same, get_or-set_other}
use borrow.Author.Tests.{eqb-true, eqb-false}
use Rattle.lists.proofs.Below.{below_ext, set_each}
use Rattle.objects.specs.declared.fields.MessageId.{MessageId}
use Rattle.table.specs.Table.{Place, Table}
use Rattle.table.specs.Total.{slots}
use Rattle.table.specs.Lists.{call_at, customer_at}
use Rattle.table.specs.Stores.{with_slot, with_customer, with_place, with_standalone_place, with_terms, with_last, with_refresh, with_occupied, with_roster}
use Rattle.table.specs.Words.{place_at_word, places_at_word, call_at_word, customer_at_word, customers_of, slots_of, occupied_of, customer_start, call_start, table_of, word_count}
use Rattle.table.proofs.Cells.{call_at_lem, customer_at_lem, name_same, place_same, places_same, occupied_same, customers_same, calls_same, calls_set, customers_set}

-- words that are as they were but for the n from b on
abbrev pub Elsewhere : List ℕ → List ℕ → ℕ → ℕ → Type 0
Elsewhere w v b n = (j : ℕ) → (b ≤ j → j < b + n → ⊥) → get_or v j 0 ≡ get_or w j 0

module _ (w v : List ℕ) where
  -- words that differ in the head only
  pub head_changed : Elsewhere w v 0 14 → table_of v ≡ record {
    address = get_or v 0 0;
    epoch = get_or v 1 0;
    next = get_or v 2 0;
    time = get_or v 3 0;
    listed = get_or v 4 0;
    form = get_or v 5 0;
    occupied = occupied_of v;
    customers = customers_of w;
    calls = slots_of w;
  }
  head_changed other = rw (customers_same w v (λ j p q. other j (λ r s. omega arith)), calls_same w v (λ j p. other j (λ r s. omega arith)))

  module _ (b n : ℕ) (past : 14 ≤ b) (other : Elsewhere w v b n) where
    head : (j : ℕ) → j < 14 → get_or v j 0 ≡ get_or w j 0
    head j l = other j (λ r s. omega arith)

  -- words that differ in one slot only
  pub slot_changed : (i : ℕ) → i < slots → Elsewhere w v (call_start i) 32
      → table_of v ≡ with_slot (table_of w) (occupied_of w) i (call_at_word v (call_start i))
  slot_changed i l other =
      let h = head (call_start i) 32 (omega arith) other in
      rw (
        h 0 (omega arith),
        h 1 (omega arith),
        h 2 (omega arith),
        h 3 (omega arith),
        h 4 (omega arith),
        h 5 (omega arith),
        occupied_same w v (λ j p q. h j q),
        customers_same w v (λ j p q. other j (λ r s. omega arith)),
        calls_set w v i l other,
      )

  -- words that differ in one customer only
  pub customer_changed : (k : ℕ) → k < 8 → Elsewhere w v (customer_start k) 26
      → table_of v ≡ with_customer (table_of w) k (customer_at_word v (customer_start k))
  customer_changed k l other =
      let h = head (customer_start k) 26 (omega arith) other in
      rw (
        h 0 (omega arith),
        h 1 (omega arith),
        h 2 (omega arith),
        h 3 (omega arith),
        h 4 (omega arith),
        h 5 (omega arith),
        occupied_same w v (λ j p q. h j q),
        customers_set w v k l other,
        calls_same w v (λ j p. other j (λ r s. omega arith)),
      )

  -- words that differ in one place of a four, from the first of the four on
  module _ (p j : ℕ) (l : j < 4) (other : (i : ℕ) → p ≤ i → (p + 4 * j ≤ i → i < p + 4 * j + 4 → ⊥) → get_or v i 0 ≡ get_or w i 0) where
    pub places_changed : places_at_word v p ≡ set (places_at_word w p) j (place_at_word v (p + 4 * j))
    places_changed =
        sym (set_each (λ k. place_at_word w (p + 4 * k)) (λ k. place_at_word v (p + 4 * k)) 4 j l
        (λ k n. place_same w v (p + 4 * k) (p + 4 * k) (λ o q. sym (other (p + 4 * k + o) (omega arith) (λ r s. n (omega arith))))))

-- ---- one word after another

-- a connection's four words stored
abbrev pub set4 : List ℕ → ℕ → ℕ → ℕ → ℕ → ℕ → List ℕ
set4 w b x y z u = set (set (set (set w b x) (b + 1) y) (b + 2) z) (b + 3) u

module _ (w : List ℕ) (b x y z u : ℕ) (fits : b + 4 ≤ length w) where
  pub set4_other : Elsewhere w (set4 w b x y z u) b 4
  set4_other j n =
      let a1 = set w b x in
      let a2 = set a1 (b + 1) y in
      let a3 = set a2 (b + 2) z in
      get_or-set_other a3 (b + 3) j u 0 (λ e. n (omega arith) (omega arith))
      ∙ get_or-set_other a2 (b + 2) j z 0 (λ e. n (omega arith) (omega arith))
      ∙ get_or-set_other a1 (b + 1) j y 0 (λ e. n (omega arith) (omega arith))
      ∙ get_or-set_other w b j x 0 (λ e. n (omega arith) (omega arith))

  pub set4_here : place_at_word (set4 w b x y z u) b ≡ record { taken = x; tunnel = y; extended = z; lsp = u }
  set4_here =
      let a1 = set w b x in
      let a2 = set a1 (b + 1) y in
      let a3 = set a2 (b + 2) z in
      let n1 = length-set w b x in
      let n2 = length-set a1 (b + 1) y in
      let n3 = length-set a2 (b + 2) z in
      let v = set4 w b x y z u in
      let p : get_or v b 0 ≡ x =
      get_or-set_other a3 (b + 3) b u 0 (λ e. omega arith) ∙ get_or-set_other a2 (b + 2) b z 0 (λ e. omega arith)
      ∙ get_or-set_other a1 (b + 1) b y 0 (λ e. omega arith) ∙ get_or-set_same w b x 0 (omega arith) in
      let q : get_or v (b + 1) 0 ≡ y =
      get_or-set_other a3 (b + 3) (b + 1) u 0 (λ e. omega arith) ∙ get_or-set_other a2 (b + 2) (b + 1) z 0 (λ e. omega arith)
      ∙ get_or-set_same a1 (b + 1) y 0 (omega arith) in
      let r : get_or v (b + 2) 0 ≡ z = get_or-set_other a3 (b + 3) (b + 2) u 0 (λ e. omega arith) ∙ get_or-set_same a2 (b + 2) z 0 (omega arith) in
      let s : get_or v (b + 3) 0 ≡ u = get_or-set_same a3 (b + 3) u 0 (omega arith) in
      rw (p, q, r, s)

-- a connection stored under a call
module _ (w : List ℕ) (i j x y z u : ℕ) (long : length w ≡ word_count) (l : i < slots) (m : j < 4) where
  pub call_place_stored : table_of (set4 w (call_start i + 16 + 4 * j) x y z u)
      ≡ with_slot (table_of w) (occupied_of w) i (with_place (call_at (table_of w) i) j (record { taken = x; tunnel = y; extended = z; lsp = u }))
  call_place_stored =
      let b = call_start i in
      let at = b + 16 + 4 * j in
      let v = set4 w at x y z u in
      let other = set4_other w at x y z u (omega arith) in
      let f : (k : ℕ) → k < 16 → get_or v (b + k) 0 ≡ get_or w (b + k) 0 = λ k n. other (b + k) (λ p q. omega arith) in
      let places : places_at_word v (b + 16) ≡ set (places_at_word w (b + 16)) j (record { taken = x; tunnel = y; extended = z; lsp = u }) =
      places_changed w v (b + 16) j m (λ k o n. other k n) ∙ ap (λ p. set (places_at_word w (b + 16)) j p) (set4_here w at x y z u (omega arith)) in
      let here : call_at_word v b ≡ with_place (call_at_word w b) j (record { taken = x; tunnel = y; extended = z; lsp = u }) =
      rw (
        other b (λ p q. omega arith),
        f 1 (omega arith),
        f 2 (omega arith),
        f 3 (omega arith),
        f 4 (omega arith),
        f 5 (omega arith),
        f 6 (omega arith),
        f 7 (omega arith),
        name_same v w (b + 8) (b + 8) (λ k n. other (b + 8 + k) (λ p q. omega arith)),
        places,
      ) in
      rw (call_at_lem w i l) (slot_changed w v i l (λ k n. other k (λ p q. n (omega arith) (omega arith))) ∙ ap (λ c. with_slot (table_of w) (occupied_of w) i c) here)

-- a connection of Call ID 0 stored with a customer, its end point first
module _ (w : List ℕ) (k j e x y z u : ℕ) (long : length w ≡ word_count) (l : k < 8) (m : j < 4) where
  pub customer_place_stored : table_of (set4 (set w (customer_start k + 6 + j) e) (customer_start k + 10 + 4 * j) x y z u)
      ≡ with_customer (table_of w) k (with_standalone_place (customer_at (table_of w) k) j e (record { taken = x; tunnel = y; extended = z; lsp = u }))
  customer_place_stored =
      let b = customer_start k in
      let at = b + 10 + 4 * j in
      let a = set w (b + 6 + j) e in
      let n = length-set w (b + 6 + j) e in
      let v = set4 a at x y z u in
      let first : (i : ℕ) → (i ≡ b + 6 + j → ⊥) → get_or a i 0 ≡ get_or w i 0 = λ i o. get_or-set_other w (b + 6 + j) i e 0 o in
      let then = set4_other a at x y z u (omega arith) in
      let other : (i : ℕ) → (i ≡ b + 6 + j → ⊥) → (at ≤ i → i < at + 4 → ⊥) → get_or v i 0 ≡ get_or w i 0 = λ i o q. then i q ∙ first i o in
      let f : (i : ℕ) → i < 6 → get_or v (b + i) 0 ≡ get_or w (b + i) 0 = λ i o. other (b + i) (λ p. omega arith) (λ p q. omega arith) in
      let ends : (customer_at_word v b).endpoints ≡ set (customer_at_word w b).endpoints j e =
      below_ext _ _ 4 (λ i o. ap (λ (q : ℕ). q ∷ []) (then (b + 6 + i) (λ p q. omega arith)))
      ∙ sym (set_each (λ i. get_or w (b + 6 + i) 0) (λ i. get_or a (b + 6 + i) 0) 4 j m (λ i o. sym (first (b + 6 + i) (λ p. o (omega arith)))))
      ∙ ap (λ (q : ℕ). set (customer_at_word w b).endpoints j q) (get_or-set_same w (b + 6 + j) e 0 (omega arith)) in
      let places : places_at_word v (b + 10) ≡ set (places_at_word w (b + 10)) j (record { taken = x; tunnel = y; extended = z; lsp = u }) =
      places_changed w v (b + 10) j m (λ i o q. other i (λ p. omega arith) q) ∙ ap (λ p. set (places_at_word w (b + 10)) j p) (set4_here a at x y z u (omega arith)) in
      let here : customer_at_word v b ≡ with_standalone_place (customer_at_word w b) j e (record { taken = x; tunnel = y; extended = z; lsp = u }) =
      rw (other b (λ p. omega arith) (λ p q. omega arith), f 1 (omega arith), f 2 (omega arith), f 3 (omega arith), f 4 (omega arith), f 5 (omega arith), ends, places) in
      rw (customer_at_lem w k l)
      (customer_changed w v k l (λ i o. other i (λ p. o (omega arith) (omega arith)) (λ p q. o (omega arith) (omega arith))) ∙ ap (λ c. with_customer (table_of w) k c) here)

-- three words stored
abbrev pub set3 : List ℕ → ℕ → ℕ → ℕ → ℕ → List ℕ
set3 w b x y z = set (set (set w b x) (b + 1) y) (b + 2) z

module _ (w : List ℕ) (b x y z : ℕ) (fits : b + 3 ≤ length w) where
  set3_other : Elsewhere w (set3 w b x y z) b 3
  set3_other j n =
      let a1 = set w b x in
      let a2 = set a1 (b + 1) y in
      get_or-set_other a2 (b + 2) j z 0 (λ e. n (omega arith) (omega arith))
      ∙ get_or-set_other a1 (b + 1) j y 0 (λ e. n (omega arith) (omega arith))
      ∙ get_or-set_other w b j x 0 (λ e. n (omega arith) (omega arith))

  set3_here : (get_or (set3 w b x y z) b 0 ≡ x) × (get_or (set3 w b x y z) (b + 1) 0 ≡ y) × (get_or (set3 w b x y z) (b + 2) 0 ≡ z)
  set3_here =
      let a1 = set w b x in
      let a2 = set a1 (b + 1) y in
      let n1 = length-set w b x in
      let n2 = length-set a1 (b + 1) y in (
        get_or-set_other a2 (b + 2) b z 0 (λ e. omega arith) ∙ get_or-set_other a1 (b + 1) b y 0 (λ e. omega arith) ∙ get_or-set_same w b x 0 (omega arith),
        get_or-set_other a2 (b + 2) (b + 1) z 0 (λ e. omega arith) ∙ get_or-set_same a1 (b + 1) y 0 (omega arith),
        get_or-set_same a2 (b + 2) z 0 (omega arith),
      )

-- words that differ in front of a customer's end points only
module _ (w v : List ℕ) (k : ℕ) (l : k < 8) (other : Elsewhere w v (customer_start k) 6) where
  customer_head_changed : table_of v ≡ with_customer (table_of w) k (record {
    address = get_or v (customer_start k) 0;
    guarantee = get_or v (customer_start k + 1) 0;
    limit = get_or v (customer_start k + 2) 0;
    kept = get_or v (customer_start k + 3) 0;
    epoch = get_or v (customer_start k + 4) 0;
    identifier = get_or v (customer_start k + 5) 0;
    endpoints = (customer_at_word w (customer_start k)).endpoints;
    places = (customer_at_word w (customer_start k)).places;
  })
  customer_head_changed =
      let b = customer_start k in
      let ends : (customer_at_word v b).endpoints ≡ (customer_at_word w b).endpoints =
      below_ext _ _ 4 (λ i o. ap (λ (n : ℕ). n ∷ []) (other (b + 6 + i) (λ p q. omega arith))) in
      let places : places_at_word v (b + 10) ≡ places_at_word w (b + 10) = places_same v w (b + 10) (b + 10) (λ i o. other (b + 10 + i) (λ p q. omega arith)) in
      customer_changed w v k l (λ i o. other i (λ p q. o (omega arith) (omega arith))) ∙ ap₂ (λ (e : List ℕ) (p : List Place). with_customer (table_of w) k (record {
        address = get_or v b 0;
        guarantee = get_or v (b + 1) 0;
        limit = get_or v (b + 2) 0;
        kept = get_or v (b + 3) 0;
        epoch = get_or v (b + 4) 0;
        identifier = get_or v (b + 5) 0;
        endpoints = e;
        places = p;
      })) ends places

-- a customer's terms stored
module _ (w : List ℕ) (k x y z : ℕ) (long : length w ≡ word_count) (l : k < 8) where
  pub terms_stored : table_of (set3 w (customer_start k) x y z) ≡ with_customer (table_of w) k (with_terms (customer_at (table_of w) k) x y z)
  terms_stored =
      let b = customer_start k in
      let v = set3 w b x y z in
      let other = set3_other w b x y z (omega arith) in
      let here = set3_here w b x y z (omega arith) in
      let f : (i : ℕ) → 3 ≤ i → get_or v (b + i) 0 ≡ get_or w (b + i) 0 = λ i o. other (b + i) (λ p q. omega arith) in
      rw (customer_at_lem w k l, customer_head_changed w v k l (λ i o. other i (λ p q. o (omega arith) (omega arith))), here.0, here.1, here.2, f 3 (omega arith), f 4 (omega arith), f 5 (omega arith))

-- a customer's last MESSAGE_ID stored
module _ (w : List ℕ) (k : ℕ) (id : MessageId) (long : length w ≡ word_count) (l : k < 8) where
  pub last_stored : table_of (set (set (set w (customer_start k + 3) 1) (customer_start k + 4) id.epoch) (customer_start k + 5) id.identifier)
      ≡ with_customer (table_of w) k (with_last (customer_at (table_of w) k) id)
  last_stored =
      let b = customer_start k in
      let v = set3 w (b + 3) 1 id.epoch id.identifier in
      let other = set3_other w (b + 3) 1 id.epoch id.identifier (omega arith) in
      let here = set3_here w (b + 3) 1 id.epoch id.identifier (omega arith) in
      let f : (i : ℕ) → i < 3 → get_or v (b + i) 0 ≡ get_or w (b + i) 0 = λ i o. other (b + i) (λ p q. omega arith) in
      let epoch : get_or v (b + 4) 0 ≡ id.epoch = ap (λ (j : ℕ). get_or v j 0) (omega arith) ∙ here.1 in
      let identifier : get_or v (b + 5) 0 ≡ id.identifier = ap (λ (j : ℕ). get_or v j 0) (omega arith) ∙ here.2 in
      let second : b + 4 ≡ b + 3 + 1 = omega arith in
      let third : b + 5 ≡ b + 3 + 2 = omega arith in
      ap table_of (ap₂ (λ (x y : ℕ). set (set (set w (b + 3) 1) x id.epoch) y id.identifier) second third)
      ∙ rw (customer_at_lem w k l, customer_head_changed w v k l (λ i o. other i (λ p q. o (omega arith) (omega arith))), other b (λ p q. omega arith), f 1 (omega arith), f 2 (omega arith), here.0, epoch, identifier)

-- the last refresh of a call stored
module _ (w : List ℕ) (i n : ℕ) (long : length w ≡ word_count) (l : i < slots) where
  pub refresh_stored : table_of (set w (call_start i + 2) n) ≡ with_slot (table_of w) (occupied_of w) i (with_refresh (call_at (table_of w) i) n)
  refresh_stored =
      let b = call_start i in
      let v = set w (b + 2) n in
      let other : (j : ℕ) → (j ≡ b + 2 → ⊥) → get_or v j 0 ≡ get_or w j 0 = λ j p. get_or-set_other w (b + 2) j n 0 p in
      let f : (k : ℕ) → (k ≡ 2 → ⊥) → get_or v (b + k) 0 ≡ get_or w (b + k) 0 = λ k p. other (b + k) (λ q. p (omega arith)) in
      let here : call_at_word v b ≡ with_refresh (call_at_word w b) n =
      rw (
        other b (λ p. omega arith),
        f 1 (λ p. omega arith),
        get_or-set_same w (b + 2) n 0 (omega arith),
        f 3 (λ p. omega arith),
        f 4 (λ p. omega arith),
        f 5 (λ p. omega arith),
        f 6 (λ p. omega arith),
        f 7 (λ p. omega arith),
        name_same v w (b + 8) (b + 8) (λ k m. other (b + 8 + k) (λ p. omega arith)),
        places_same v w (b + 16) (b + 16) (λ k m. other (b + 16 + k) (λ p. omega arith)),
      ) in
      rw (call_at_lem w i l) (slot_changed w v i l (λ k o. other k (λ p. o (omega arith) (omega arith))) ∙ ap (λ c. with_slot (table_of w) (occupied_of w) i c) here)

-- ---- the head

-- word k, of those in front of the marks, is n
abbrev pub with_head : Table → ℕ → ℕ → Table
with_head t k n = record {
  address = cond (eqb 0 k) n t.address;
  epoch = cond (eqb 1 k) n t.epoch;
  next = cond (eqb 2 k) n t.next;
  time = cond (eqb 3 k) n t.time;
  listed = cond (eqb 4 k) n t.listed;
  form = cond (eqb 5 k) n t.form;
  occupied = t.occupied;
  customers = t.customers;
  calls = t.calls;
}

word_stored : (w : List ℕ) (k n j : ℕ) → k < length w → get_or (set w k n) j 0 ≡ cond (eqb j k) n (get_or w j 0)
word_stored w k n j l = go (eqb j k) refl
  where
    go : (b : Bool) → eqb j k ≡ b → get_or (set w k n) j 0 ≡ cond b n (get_or w j 0)
    go true e = rw (eqb-true j k e) (get_or-set_same w k n 0 l)
    go false e = get_or-set_other w k j n 0 (eqb-false j k e)

-- with k a number, as 2 for the next own identifier, `with_head` is `with_next` and the like
pub head_stored : (w : List ℕ) (k n : ℕ) → length w ≡ word_count → k < 6 → table_of (set w k n) ≡ with_head (table_of w) k n
head_stored w k n long l =
    let v = set w k n in
    let other : (j : ℕ) → (j ≡ k → ⊥) → get_or v j 0 ≡ get_or w j 0 = λ j p. get_or-set_other w k j n 0 p in
    let is : (j : ℕ) → get_or v j 0 ≡ cond (eqb j k) n (get_or w j 0) = λ j. word_stored w k n j (omega arith) in
    head_changed w v (λ j p. other j (λ q. p (omega arith) (omega arith))) ∙ rw (is 0, is 1, is 2, is 3, is 4, is 5, occupied_same w v (λ j p q. other j (λ e. omega arith)))

pub roster_stored : (w : List ℕ) (x y z u : ℕ) → length w ≡ word_count → table_of (set (set (set (set w 0 x) 1 y) 4 z) 5 u) ≡ with_roster (table_of w) x y z u
roster_stored w x y z u long =
    let a = set w 0 x in
    let b = set a 1 y in
    let c = set b 4 z in
    let n = length-set w 0 x ∙ long in
    let m = length-set a 1 y ∙ n in
    let o = length-set b 4 z ∙ m in
    head_stored c 5 u o (omega arith)
    ∙ ap (λ t. with_head t 5 u)
    (head_stored b 4 z m (omega arith) ∙ ap (λ t. with_head t 4 z) (head_stored a 1 y n (omega arith) ∙ ap (λ t. with_head t 1 y) (head_stored w 0 x long (omega arith))))

-- the marks of 64 slots in their two words
pub used_stored : (w : List ℕ) (k lo hi n : ℕ) → length w ≡ word_count → k < 4 → lo + hi * 4294967296 ≡ n
    → table_of (set (set w (6 + 2 * k) lo) (6 + 2 * k + 1) hi) ≡ with_occupied (table_of w) (set (occupied_of w) k n)
used_stored w k lo hi n long l e =
    let a = set w (6 + 2 * k) lo in
    let v = set a (6 + 2 * k + 1) hi in
    let other : (j : ℕ) → (j ≡ 6 + 2 * k → ⊥) → (j ≡ 6 + 2 * k + 1 → ⊥) → get_or v j 0 ≡ get_or w j 0 =
    λ j p q. get_or-set_other a (6 + 2 * k + 1) j hi 0 q ∙ get_or-set_other w (6 + 2 * k) j lo 0 p in
    let low : get_or v (6 + 2 * k) 0 ≡ lo = get_or-set_other a (6 + 2 * k + 1) (6 + 2 * k) hi 0 (λ q. omega arith) ∙ get_or-set_same w (6 + 2 * k) lo 0 (omega arith) in
    let high : get_or v (7 + 2 * k) 0 ≡ hi =
    ap (λ (j : ℕ). get_or v j 0) (omega arith) ∙ get_or-set_same a (6 + 2 * k + 1) hi 0 (omega (arith, length-set w (6 + 2 * k) lo)) in
    let f : List ℕ → ℕ → ℕ = λ w k. get_or w (6 + 2 * k) 0 + get_or w (7 + 2 * k) 0 * 4294967296 in
    let words : occupied_of v ≡ set (occupied_of w) k n =
    sym (ap (λ (x : ℕ). set (occupied_of w) k x) (sym (ap₂ (λ (x y : ℕ). x + y * 4294967296) low high ∙ e))
    ∙ set_each (f w) (f v) 4 k l
    (λ i o. ap₂ (λ (x y : ℕ). x + y * 4294967296) (sym (other (6 + 2 * i) (λ q. o (omega arith)) (λ q. omega arith))) (sym (other (7 + 2 * i) (λ q. omega arith) (λ q. o (omega arith)))))) in
    head_changed w v (λ j p. other j (λ q. p (omega arith) (omega arith)) (λ q. p (omega arith) (omega arith)))
    ∙ rw (
      other 0 (λ q. omega arith) (λ q. omega arith),
      other 1 (λ q. omega arith) (λ q. omega arith),
      other 2 (λ q. omega arith) (λ q. omega arith),
      other 3 (λ q. omega arith) (λ q. omega arith),
      other 4 (λ q. omega arith) (λ q. omega arith),
      other 5 (λ q. omega arith) (λ q. omega arith),
      words,
    )
