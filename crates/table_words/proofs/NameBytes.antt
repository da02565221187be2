-- A name's bytes in its words: one byte, one word, a name of bytes as words.
-- Assumes nothing.
use Prim.Native.Nat.{ℕ, zero, suc, ◌+◌, ◌*◌, ◌-◌, ◌/◌, ◌%◌, ◌^◌, ◌≤◌, ◌<◌}
use native.Mathlib.Nat.{add-zero, zero-add, eq-or-lt_of_le, le_of_suc-le-suc, not-suc-le-zero}
use native.Mathlib.Numerals.{add-one}
use native.Mathlib.Omega.{arith}
use mathlib.Core.Path.{◌≡◌, refl, sym, ap, ◌∙◌}
use mathlib.Core.Logic.{⊎_elim}
use mathlib.Core.List.{List, [], ◌∷◌, ◌++◌}
use mathlib.Core.Bool.{Bool, true, false}
use lib.Dec.{ltb, eqb}
use lib.ListN.{length, get_or, take, drop, replicate, length-append, length-take, length-drop, get_or-append, get_or-eq_default, drop_of_length-le}
use lib.Seq.{drop-cons, get_or-append-add, get_or-take, get_or-drop, ext_get_or}
use borrow.Author.Tests.{eqb-true, ltb-true, ltb-false}
use Rattle.numbers.specs.Search.{zeros_at}
use Rattle.numbers.specs.Buffer.{at_front}
use Rattle.lists.specs.Below.{below}
use Rattle.lists.proofs.Tests.{both}
use Rattle.table.specs.Words.{bytes_of, name_at_word}
use Rattle.table.proofs.Told.{four}
use Rattle.table_words.specs.Names.{word_in}

pub name_long : (w : List ℕ) (b : ℕ) → length (name_at_word w b) ≡ 32
unfolding below
name_long w b = refl

-- ---- zeros in a row

pub zeros_drop : (x : List ℕ) (n m : ℕ) → n + m ≡ length x → zeros_at x n m ≡ true → drop n x ≡ replicate m 0
unfolding zeros_at
zeros_drop x n zero e h = drop_of_length-le x {i = n} (omega arith)
zeros_drop x n (suc m) e h =
    let k = both (eqb (get_or x n 0) 0) (zeros_at x (n + 1) m) h in
    let l : n < length x = omega arith in
    let r : drop (suc n) x ≡ replicate m 0 = rw (add-one n) at (zeros_drop x (n + 1) m (omega arith) k.1) in
    rw (drop-cons x n 0 l, r, eqb-true (get_or x n 0) 0 k.0)

-- ---- an element of cells of four

cells_long : (f : ℕ → List ℕ) → ((i : ℕ) → length (f i) ≡ 4) → (n : ℕ) → length (below f n) ≡ 4 * n
unfolding below
cells_long f p zero = refl
cells_long f p (suc n) = omega (arith, length-append (below f n) (f n), cells_long f p n, p n)

cell_get : (f : ℕ → List ℕ) → ((i : ℕ) → length (f i) ≡ 4) → (n k m : ℕ) → k < n → m < 4 → get_or (below f n) (4 * k + m) 0 ≡ get_or (f k) m 0
unfolding below
cell_get f p zero k m h l = absurd (not-suc-le-zero h)
cell_get f p (suc n) k m h l =
    ⊎_elim
    (λ (e : k ≡ n). rw e (ap (λ (i : ℕ). get_or (below f n ++ f n) (i + m) 0) (sym (cells_long f p n)) ∙ get_or-append-add (below f n) (f n) m 0))
    (λ (b : k < n). get_or-append (below f n) (f n) 0 (4 * k + m) (omega (arith, cells_long f p n)) ∙ cell_get f p n k m b l)
    (eq-or-lt_of_le (le_of_suc-le-suc h))

module _ (w : List ℕ) (b : ℕ) where
  pub name_at : (k m : ℕ) → k < 8 → m < 4 → get_or (name_at_word w b) (4 * k + m) 0 ≡ get_or (bytes_of (get_or w (b + k) 0)) m 0
  name_at k m h l = cell_get (λ k. bytes_of (get_or w (b + k) 0)) (λ i. refl) 8 k m h l

  pub name_byte_at : (k : ℕ) → k < 32 → get_or (name_at_word w b) k 0 ≡ get_or (bytes_of (get_or w (b + k / 4) 0)) (k % 4) 0
  name_byte_at k h =
      let s : k ≡ 4 * (k / 4) + k % 4 = omega arith in
      ap (λ (n : ℕ). get_or (name_at_word w b) n 0) s ∙ name_at (k / 4) (k % 4) (omega arith) (omega arith)

  -- a word is its four bytes
  pub name_word_at : (k : ℕ) → k < 8 → get_or w (b + k) 0 ≡ word_in (name_at_word w b) k
  name_word_at k h =
      let x = get_or w (b + k) 0 in
      let first = ap (λ (n : ℕ). get_or (name_at_word w b) n 0) (sym (add-zero (4 * k))) ∙ name_at k 0 h (omega arith) in
      let e : x ≡ x % 256 + x / 256 % 256 * 256 + x / 65536 % 256 * 65536 + x / 16777216 * 16777216 = omega arith in
      rw (first, name_at k 1 h (omega arith), name_at k 2 h (omega arith), name_at k 3 h (omega arith)) e

-- ---- one byte of a word, by a shift

pub byte_shifted : (x : ℕ) → x < 4294967296 → (j : ℕ) → j < 4 → x / 2 ^ (8 * j) % 256 ≡ get_or (bytes_of x) j 0
byte_shifted x h =
    four (λ j. x / 2 ^ (8 * j) % 256 ≡ get_or (bytes_of x) j 0)
    (omega arith)
    refl
    refl
    (omega arith)

-- ---- a name of bytes as words

pub name_within : (s : List ℕ) (at n k : ℕ) → k < n → get_or s (at + k) 0 ≡ get_or (take n (drop at s)) k 0
name_within s at n k h = sym (get_or-take n (drop at s) k 0 h ∙ get_or-drop at s k 0)

pub name_fits : (s : List ℕ) (at n : ℕ) → n ≤ 32 → length (take n (drop at s)) ≤ 32
name_fits s at n h = omega (arith, length-take n (drop at s))

low : (a y : ℕ) → a < 256 → (a + y * 256) % 256 ≡ a
low a y h = omega arith

high : (a y : ℕ) → a < 256 → (a + y * 256) / 256 ≡ y
high a y h = omega arith

-- a word of four bytes
pub word_bytes : (a b c d : ℕ) → a < 256 → b < 256 → c < 256 → d < 256 → bytes_of (a + b * 256 + c * 65536 + d * 16777216) ≡ a ∷ b ∷ c ∷ d ∷ []
word_bytes a b c d ha hb hc hd =
    let z = c + d * 256 in
    let y = b + z * 256 in
    let s : a + b * 256 + c * 65536 + d * 16777216 ≡ a + y * 256 = omega arith in
    let twice : (x : ℕ) → x / 65536 ≡ x / 256 / 256 = λ x. omega arith in
    let thrice : (x : ℕ) → x / 16777216 ≡ x / 256 / 256 / 256 = λ x. omega arith in
    rw (s, twice, thrice, low a y ha, high a y ha, low b z hb, high b z hb, low c d hc, high c d hc)

-- the words so far have the bytes of x, zeros behind it
pub record Spelled (x name : List ℕ) (n : ℕ) : Type 0 where
  pub long : length name ≡ 8
  pub word : (k : ℕ) → k < n → bytes_of (get_or name k 0) ≡ get_or x (4 * k) 0 ∷ get_or x (4 * k + 1) 0 ∷ get_or x (4 * k + 2) 0 ∷ get_or x (4 * k + 3) 0 ∷ []

pub zero_get : (n j : ℕ) → get_or (replicate {A = ℕ} n 0) j 0 ≡ 0
zero_get zero j = refl
zero_get (suc n) zero = refl
zero_get (suc n) (suc j) = zero_get n j

-- zeros behind a list are what a read past its end gives
front_get : (x : List ℕ) (n i : ℕ) → get_or (at_front x (replicate n 0)) i 0 ≡ get_or x i 0
unfolding at_front
front_get x n i = go (ltb i (length x)) refl
  where
    zeros : List ℕ
    zeros = drop (length x) (replicate {A = ℕ} n 0)

    go : (s : Bool) → ltb i (length x) ≡ s → get_or (x ++ drop (length x) (replicate {A = ℕ} n 0)) i 0 ≡ get_or x i 0
    go true e = get_or-append x zeros 0 i (ltb-true i (length x) e)
    go false e =
        let l : length x ≤ i = ltb-false i (length x) e in
        let s : i ≡ length x + (i - length x) = omega arith in
        ap (λ (k : ℕ). get_or (x ++ zeros) k 0) s
        ∙ get_or-append-add x zeros (i - length x) 0
        ∙ get_or-drop (length x) (replicate {A = ℕ} n 0) (i - length x) 0
        ∙ zero_get n (length x + (i - length x))
        ∙ sym (get_or-eq_default x 0 l)

front_long : (x b : List ℕ) → length x ≤ length b → length (at_front x b) ≡ length b
unfolding at_front
front_long x b h = omega (arith, length-append x (drop (length x) b), length-drop (length x) b)

pub spelled_all : (x name : List ℕ) → length x ≤ 32 → Spelled x name 8 → name_at_word name 0 ≡ at_front x (replicate 32 0)
spelled_all x name l s =
    ext_get_or 0 _ _ (name_long name 0 ∙ sym (front_long x (replicate 32 0) l))
    (λ i h. byte i (omega (arith, name_long name 0)) ∙ sym (front_get x 32 i))
  where
    cell : (k : ℕ) → k < 8 → (m : ℕ) → m < 4 → get_or (bytes_of (get_or name k 0)) m 0 ≡ get_or x (4 * k + m) 0
    cell k h =
        let e = s.word k h in
        four (λ m. get_or (bytes_of (get_or name k 0)) m 0 ≡ get_or x (4 * k + m) 0)
        (ap (λ l. get_or l 0 0) e ∙ ap (λ (n : ℕ). get_or x n 0) (sym (add-zero (4 * k))))
        (ap (λ l. get_or l 1 0) e)
        (ap (λ l. get_or l 2 0) e)
        (ap (λ l. get_or l 3 0) e)

    byte : (i : ℕ) → i < 32 → get_or (name_at_word name 0) i 0 ≡ get_or x i 0
    byte i h =
        let z : 4 * (i / 4) + i % 4 ≡ i = omega arith in
        name_byte_at name 0 i h
        ∙ ap (λ (n : ℕ). get_or (bytes_of (get_or name n 0)) (i % 4) 0) (zero-add (i / 4))
        ∙ cell (i / 4) (omega arith) (i % 4) (omega arith)
        ∙ ap (λ (n : ℕ). get_or x n 0) z
