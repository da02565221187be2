-- What a call, a customer and the table are goes by their words alone.
-- Assumes nothing.
use Rattle.std.proofs.Common.{◌≡◌, ℕ, ◌+◌, ◌*◌, ◌^◌, ◌<◌, ◌≤◌, List, [], ◌∷◌, length, get_or, set, sym, ap, ap₂, arith}
use lib.ListN.{get_or-eq_default}
use Rattle.lists.proofs.Tests.{split}
use Rattle.lists.proofs.Below.{below_ext, length_each, get_d_each, set_each}
use Rattle.table.specs.Total.{slots}
use Rattle.table.specs.Word.{FourWords}
use Rattle.table.specs.Lists.{call_at, customer_at}
use Rattle.table.specs.Words.{bytes_of, name_at_word, place_at_word, places_at_word, call_at_word, customer_at_word, customers_of, slots_of, occupied_of, customer_start, call_start, table_of}

-- a slot's call, a record's customer, a four's place and 64 slots' marks are those of their words
pub call_at_lem : (w : List ℕ) (i : ℕ) → i < slots → call_at (table_of w) i ≡ call_at_word w (call_start i)
call_at_lem w i h = get_d_each (λ i. call_at_word w (call_start i)) slots i _ h

pub used_at : (w : List ℕ) (k : ℕ) → k < 4 → get_or (occupied_of w) k 0 ≡ get_or w (6 + 2 * k) 0 + get_or w (7 + 2 * k) 0 * 4294967296
used_at w k h = get_d_each (λ k. get_or w (6 + 2 * k) 0 + get_or w (7 + 2 * k) 0 * 4294967296) 4 k 0 h

pub used_long : (w : List ℕ) → length (occupied_of w) ≡ 4
used_long w = length_each (λ k. get_or w (6 + 2 * k) 0 + get_or w (7 + 2 * k) 0 * 4294967296) 4

-- where each of the four words has 64 bits, they are a table's
pub used_fit : (w : List ℕ) → ((k : ℕ) → k < 4 → get_or (occupied_of w) k 0 < 2 ^ 64) → FourWords (occupied_of w)
used_fit w h = record { four = used_long w; word = split 4 h (λ k l. rw (get_or-eq_default (occupied_of w) 0 {n = k} (omega (arith, used_long w))) (omega arith)) }

pub customer_at_lem : (w : List ℕ) (k : ℕ) → k < 8 → customer_at (table_of w) k ≡ customer_at_word w (customer_start k)
customer_at_lem w k h = get_d_each (λ k. customer_at_word w (customer_start k)) 8 k _ h

pub place_at_lem : (w : List ℕ) (b j : ℕ) → j < 4 → get_or (places_at_word w b) j (place_at_word [] 0) ≡ place_at_word w (b + 4 * j)
place_at_lem w b j h = get_d_each (λ j. place_at_word w (b + 4 * j)) 4 j _ h

pub endpoint_at_lem : (w : List ℕ) (b j : ℕ) → j < 4 → get_or (customer_at_word w b).endpoints j 0 ≡ get_or w (b + 6 + j) 0
endpoint_at_lem w b j h = get_d_each (λ j. get_or w (b + 6 + j) 0) 4 j 0 h

-- words that are the same, from one place on and from another
module _ (w v : List ℕ) (b e n : ℕ) (h : (k : ℕ) → k < n → get_or w (b + k) 0 ≡ get_or v (e + k) 0) where
  cell : (x y k : ℕ) → x ≡ b + k → y ≡ e + k → k < n → get_or w x 0 ≡ get_or v y 0
  cell x y k p q l = rw (p, q) (h k l)

module _ (w v : List ℕ) (b e : ℕ) where
  pub name_same : ((k : ℕ) → k < 8 → get_or w (b + k) 0 ≡ get_or v (e + k) 0) → name_at_word w b ≡ name_at_word v e
  name_same h = below_ext _ _ 8 (λ k l. ap bytes_of (h k l))

  pub place_same : ((k : ℕ) → k < 4 → get_or w (b + k) 0 ≡ get_or v (e + k) 0) → place_at_word w b ≡ place_at_word v e
  place_same h =
      let f = cell w v b e 4 h in
      rw (f b e 0 (omega arith) (omega arith) (omega arith), h 1 (omega arith), h 2 (omega arith), h 3 (omega arith))

module _ (w v : List ℕ) (b e : ℕ) where
  pub places_same : ((k : ℕ) → k < 16 → get_or w (b + k) 0 ≡ get_or v (e + k) 0) → places_at_word w b ≡ places_at_word v e
  places_same h =
      let f = cell w v b e 16 h in
      below_ext _ _ 4 (λ j l. ap (λ x. x ∷ []) (place_same w v (b + 4 * j) (e + 4 * j)
      (λ k m. f (b + 4 * j + k) (e + 4 * j + k) (4 * j + k) (omega arith) (omega arith) (omega arith))))

module _ (w v : List ℕ) (b e : ℕ) where
  pub call_same : ((k : ℕ) → k < 32 → get_or w (b + k) 0 ≡ get_or v (e + k) 0) → call_at_word w b ≡ call_at_word v e
  call_same h =
      let f = cell w v b e 32 h in
      let n : name_at_word w (b + 8) ≡ name_at_word v (e + 8) =
      name_same w v (b + 8) (e + 8) (λ k l. f (b + 8 + k) (e + 8 + k) (8 + k) (omega arith) (omega arith) (omega arith)) in
      let p : places_at_word w (b + 16) ≡ places_at_word v (e + 16) =
      places_same w v (b + 16) (e + 16) (λ k l. f (b + 16 + k) (e + 16 + k) (16 + k) (omega arith) (omega arith) (omega arith)) in
      rw (
        f b e 0 (omega arith) (omega arith) (omega arith),
        h 1 (omega arith),
        h 2 (omega arith),
        h 3 (omega arith),
        h 4 (omega arith),
        h 5 (omega arith),
        h 6 (omega arith),
        h 7 (omega arith),
        n,
        p,
      )

  pub customer_same : ((k : ℕ) → k < 26 → get_or w (b + k) 0 ≡ get_or v (e + k) 0) → customer_at_word w b ≡ customer_at_word v e
  customer_same h =
      let f = cell w v b e 26 h in
      let n : (customer_at_word w b).endpoints ≡ (customer_at_word v e).endpoints =
      below_ext _ _ 4 (λ j l. ap (λ (x : ℕ). x ∷ []) (f (b + 6 + j) (e + 6 + j) (6 + j) (omega arith) (omega arith) (omega arith))) in
      let p : places_at_word w (b + 10) ≡ places_at_word v (e + 10) =
      places_same w v (b + 10) (e + 10) (λ k l. f (b + 10 + k) (e + 10 + k) (10 + k) (omega arith) (omega arith) (omega arith)) in
      rw (
        f b e 0 (omega arith) (omega arith) (omega arith),
        h 1 (omega arith),
        h 2 (omega arith),
        h 3 (omega arith),
        h 4 (omega arith),
        h 5 (omega arith),
        n,
        p,
      )

module _ (w v : List ℕ) where
  pub occupied_same : ((j : ℕ) → 6 ≤ j → j < 14 → get_or v j 0 ≡ get_or w j 0) → occupied_of v ≡ occupied_of w
  occupied_same h =
      below_ext _ _ 4 (λ k l. ap₂ (λ (x y : ℕ). (x + y * 4294967296) ∷ []) (h (6 + 2 * k) (omega arith) (omega arith)) (h (7 + 2 * k) (omega arith) (omega arith)))

  pub customers_same : ((j : ℕ) → 14 ≤ j → j < 222 → get_or v j 0 ≡ get_or w j 0) → customers_of v ≡ customers_of w
  customers_same h =
      below_ext _ _ 8 (λ k l. ap (λ x. x ∷ []) (customer_same v w (customer_start k) (customer_start k) (λ j m. h (customer_start k + j) (omega arith) (omega arith))))

  pub calls_same : ((j : ℕ) → 222 ≤ j → get_or v j 0 ≡ get_or w j 0) → slots_of v ≡ slots_of w
  calls_same h =
      below_ext _ _ slots (λ i l. ap (λ x. x ∷ []) (call_same v w (call_start i) (call_start i) (λ j m. h (call_start i + j) (omega arith))))

  -- one slot's words changed, one customer's
  pub calls_set : (i : ℕ) → i < slots → ((j : ℕ) → (call_start i ≤ j → j < call_start i + 32 → ⊥) → get_or v j 0 ≡ get_or w j 0)
      → slots_of v ≡ set (slots_of w) i (call_at_word v (call_start i))
  calls_set i l h =
      sym (set_each (λ i. call_at_word w (call_start i)) (λ i. call_at_word v (call_start i)) slots i l
      (λ j n. call_same w v (call_start j) (call_start j) (λ k m. sym (h (call_start j + k) (λ p q. n (omega arith))))))

  pub customers_set : (i : ℕ) → i < 8 → ((j : ℕ) → (customer_start i ≤ j → j < customer_start i + 26 → ⊥) → get_or v j 0 ≡ get_or w j 0)
      → customers_of v ≡ set (customers_of w) i (customer_at_word v (customer_start i))
  customers_set i l h =
      sym (set_each (λ i. customer_at_word w (customer_start i)) (λ i. customer_at_word v (customer_start i)) 8 i l
      (λ j n. customer_same w v (customer_start j) (customer_start j) (λ k m. sym (h (customer_start j + k) (λ p q. n (omega arith))))))
