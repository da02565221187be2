-- Words and table are one to one: tables that are the same have the same words.
-- Assumes nothing.
use Rattle.std.proofs.Common.{◌≡◌, ℕ, zero, suc, ◌+◌, ◌-◌, ◌*◌, ◌/◌, ◌%◌, ◌<◌, ◌≤◌, List, [], ◌∷◌, length, get_or, sym, refl, ap, ◌∙◌, arith, ext_get_or}
use Rattle.lists.specs.Below.{below}
use Rattle.lists.proofs.Tests.{split}
use Rattle.table.specs.Total.{slots}
use Rattle.table.specs.Words.{place_at_word, places_at_word, call_at_word, customer_at_word, customer_start, call_start, table_of, word_count}
use Rattle.table.specs.Claims.{WordsTold}
use Rattle.table.proofs.Names.{cells_told, name_told}

-- one of the first numbers
pub four : (P : ℕ → Type 0) → P 0 → P 1 → P 2 → P 3 → (k : ℕ) → k < 4 → P k
four P a b c d zero h = a
four P a b c d (suc zero) h = b
four P a b c d (suc (suc zero)) h = c
four P a b c d (suc (suc (suc zero))) h = d
four P a b c d (suc (suc (suc (suc k)))) h = absurd (omega arith)

-- one of n cells of one size, and a word of it
cell : (f g : ℕ → ℕ) (n : ℕ) → below (λ j. f j ∷ []) n ≡ below (λ j. g j ∷ []) n → (j : ℕ) → j < n → f j ≡ g j
cell f g n e j l = ap (λ l. get_or l 0 0) (cells_told (λ j. f j ∷ []) (λ j. g j ∷ []) 1 (λ i. refl) (λ i. refl) n e j l)

module _ (w v : List ℕ) where
  abbrev Same : ℕ → Type 0
  Same j = get_or w j 0 ≡ get_or v j 0

  moved : (i j : ℕ) → i ≡ j → Same i → Same j
  moved i j e h = rw e at h

  module _ (b : ℕ) where
    place_told : place_at_word w b ≡ place_at_word v b → (k : ℕ) → k < 4 → Same (b + k)
    place_told e =
        four (λ k. Same (b + k))
        (moved b (b + 0) (omega arith) (ap (λ p. p.taken) e))
        (ap (λ p. p.tunnel) e)
        (ap (λ p. p.extended) e)
        (ap (λ p. p.lsp) e)

  module _ (b : ℕ) where
    places_told : places_at_word w b ≡ places_at_word v b → (k : ℕ) → k < 16 → Same (b + k)
    places_told e k h =
        let j = k / 4 in
        let p : place_at_word w (b + 4 * j) ≡ place_at_word v (b + 4 * j) =
        ap (λ l. get_or l 0 (place_at_word w 0))
        (cells_told (λ j. place_at_word w (b + 4 * j) ∷ []) (λ j. place_at_word v (b + 4 * j) ∷ []) 1 (λ i. refl) (λ i. refl) 4 e j (omega arith)) in
        moved (b + 4 * j + k % 4) (b + k) (omega arith) (place_told (b + 4 * j) p (k % 4) (omega arith))

  module _ (b : ℕ) where
    pub call_told : call_at_word w b ≡ call_at_word v b → (k : ℕ) → k < 32 → Same (b + k)
    call_told e k h =
        split {P = λ k. k < 32 → Same (b + k)} 4
        (λ k l h. four (λ k. Same (b + k))
        (moved b (b + 0) (omega arith) (ap (λ c. c.endpoint) e))
        (ap (λ c. c.sender) e)
        (ap (λ c. c.refreshed) e)
        (ap (λ c. c.epoch) e) k l)
        (λ k g. split {P = λ k. 4 ≤ k → k < 32 → Same (b + k)} 8
        (λ k l g h. moved (b + (4 + (k - 4))) (b + k) (omega arith) (four (λ k. Same (b + (4 + k)))
        (ap (λ c. c.identifier) e)
        (ap (λ c. c.id) e)
        (ap (λ c. c.made) e)
        (ap (λ c. c.size) e) (k - 4) (omega arith)))
        (λ k m g. split {P = λ k. 8 ≤ k → k < 32 → Same (b + k)} 16
        (λ k l m h. moved (b + 8 + (k - 8)) (b + k) (omega arith) (name_told w v (b + 8) (b + 8) (ap (λ c. c.name) e) (k - 8) (omega arith)))
        (λ k n m h. moved (b + 16 + (k - 16)) (b + k) (omega arith) (places_told (b + 16) (ap (λ c. c.places) e) (k - 16) (omega arith))) k m) k g) k h

    pub customer_told : customer_at_word w b ≡ customer_at_word v b → (k : ℕ) → k < 26 → Same (b + k)
    customer_told e k h =
        split {P = λ k. k < 26 → Same (b + k)} 4
        (λ k l h. four (λ k. Same (b + k))
        (moved b (b + 0) (omega arith) (ap (λ c. c.address) e))
        (ap (λ c. c.guarantee) e)
        (ap (λ c. c.limit) e)
        (ap (λ c. c.kept) e) k l)
        (λ k g. split {P = λ k. 4 ≤ k → k < 26 → Same (b + k)} 6
        (λ k l g h. split {P = λ k. 4 ≤ k → k < 6 → Same (b + k)} 5
        (λ k m g l. moved (b + 4) (b + k) (omega arith) (ap (λ c. c.epoch) e))
        (λ k m g l. moved (b + 5) (b + k) (omega arith) (ap (λ c. c.identifier) e)) k g l)
        (λ k n g. split {P = λ k. 6 ≤ k → k < 26 → Same (b + k)} 10
        (λ k l n h. moved (b + 6 + (k - 6)) (b + k) (omega arith)
        (cell (λ j. get_or w (b + 6 + j) 0) (λ j. get_or v (b + 6 + j) 0) 4 (ap (λ c. c.endpoints) e) (k - 6) (omega arith)))
        (λ k l n h. moved (b + 10 + (k - 10)) (b + k) (omega arith) (places_told (b + 10) (ap (λ c. c.places) e) (k - 10) (omega arith))) k n) k g) k h

  module _ (lw : (i : ℕ) → get_or w i 0 < 4294967296) (lv : (i : ℕ) → get_or v i 0 < 4294967296) (e : table_of w ≡ table_of v) where
    -- two words that are one of 64 bits
    occupied_told : (j : ℕ) → j < 8 → Same (6 + j)
    occupied_told j h =
        let k = j / 2 in
        let p : get_or w (6 + 2 * k) 0 + get_or w (7 + 2 * k) 0 * 4294967296 ≡ get_or v (6 + 2 * k) 0 + get_or v (7 + 2 * k) 0 * 4294967296 =
        cell (λ k. get_or w (6 + 2 * k) 0 + get_or w (7 + 2 * k) 0 * 4294967296) (λ k. get_or v (6 + 2 * k) 0 + get_or v (7 + 2 * k) 0 * 4294967296) 4 (ap (λ t. t.occupied) e) k (omega arith) in
        let low : Same (6 + 2 * k) = omega (arith, p, lw (6 + 2 * k), lv (6 + 2 * k)) in
        let high : Same (7 + 2 * k) = omega (arith, p, lw (6 + 2 * k), lv (6 + 2 * k)) in
        split {P = λ r. j % 2 ≡ r → r < 2 → Same (6 + j)} 1
        (λ r a q b. moved (6 + 2 * k) (6 + j) (omega arith) low)
        (λ r a q b. moved (7 + 2 * k) (6 + j) (omega arith) high)
        (j % 2) refl (omega arith)

    customers_told : (k : ℕ) → 14 ≤ k → k < 222 → Same k
    customers_told k g h =
        let j = (k - 14) / 26 in
        let p : customer_at_word w (customer_start j) ≡ customer_at_word v (customer_start j) =
        ap (λ l. get_or l 0 (customer_at_word w 0))
        (cells_told (λ j. customer_at_word w (customer_start j) ∷ []) (λ j. customer_at_word v (customer_start j) ∷ []) 1 (λ i. refl) (λ i. refl) 8 (ap (λ t. t.customers) e) j (omega arith)) in
        moved (customer_start j + (k - 14) % 26) k (omega arith) (customer_told (customer_start j) p ((k - 14) % 26) (omega arith))

    calls_told : (k : ℕ) → 222 ≤ k → k < word_count → Same k
    calls_told k g h =
        let j = (k - 222) / 32 in
        let p : call_at_word w (call_start j) ≡ call_at_word v (call_start j) =
        ap (λ l. get_or l 0 (call_at_word w 0))
        (cells_told (λ j. call_at_word w (call_start j) ∷ []) (λ j. call_at_word v (call_start j) ∷ []) 1 (λ i. refl) (λ i. refl) slots (ap (λ t. t.calls) e) j (omega arith)) in
        moved (call_start j + (k - 222) % 32) k (omega arith) (call_told (call_start j) p ((k - 222) % 32) (omega arith))

    word_told : (k : ℕ) → k < word_count → Same k
    word_told k h =
        split {P = λ k. k < word_count → Same k} 4
        (λ k l h. four Same (ap (λ t. t.address) e) (ap (λ t. t.epoch) e) (ap (λ t. t.next) e) (ap (λ t. t.time) e) k l)
        (λ k g. split {P = λ k. 4 ≤ k → k < word_count → Same k} 6
        (λ k l g h. split {P = λ k. 4 ≤ k → k < 6 → Same k} 5 (λ k m g l. moved 4 k (omega arith) (ap (λ t. t.listed) e)) (λ k m g l. moved 5 k (omega arith) (ap (λ t. t.form) e)) k g l)
        (λ k f g. split {P = λ k. 6 ≤ k → k < word_count → Same k} 14
        (λ k l f h. moved (6 + (k - 6)) k (omega arith) (occupied_told (k - 6) (omega arith)))
        (λ k m f. split {P = λ k. 14 ≤ k → k < word_count → Same k} 222 (λ k l m h. customers_told k m l) (λ k n m h. calls_told k n h) k m) k f) k g) k h

    told : length w ≡ word_count → length v ≡ word_count → w ≡ v
    told n m = ext_get_or 0 w v (n ∙ sym m) (λ i l. word_told i (omega arith))

pub words_told : WordsTold
words_told w v lw lv e = told w v lw lv e
