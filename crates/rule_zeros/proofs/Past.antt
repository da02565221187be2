-- The bytes past a name by masks: a mask takes the bytes of a word from one of them on, and the masks of a name's eight
-- words stand in a row.
-- Assumes nothing.
use Prim.Native.Nat.{ℕ, zero, suc, ◌+◌, ◌*◌, ◌-◌, ◌/◌, ◌%◌, ◌^◌, ◌≤◌, ◌<◌}
use native.Mathlib.Nat.{add-zero, zero-mul, zero-lt-suc, eq-or-lt_of_le, lt_of_lt_of_le, div-eq_of_lt, mod-lt, pow-le-pow_right, sub-eq-zero_of_le}
use native.Mathlib.Omega.{arith}
use mathlib.Core.Path.{◌≡◌, refl, sym, ap, ◌∙◌}
use mathlib.Core.Logic.{⊎_elim}
use mathlib.Core.List.{List}
use mathlib.Core.Bool.{Bool, true, false, not, ◌&&◌, ◌||◌}
use lib.Dec.{ltb, eqb}
use lib.ListN.{get_or}
use lib.Pow.{pow_pos, split, shr_mod}
use lib.Bits.{bit_and, and_zero_r, and_high}
use borrow.Author.Tests.{eq-eqb, eqb-true, ltb-true, ltb-false, lt-ltb}
use Rattle.numbers.specs.Search.{zeros_at}
use Rattle.lists.specs.Below.{every_below}
use Rattle.lists.proofs.Tests.{both}
use Rattle.lists.proofs.Below.{every_at}
use Rattle.table.specs.Total.{slots}
use Rattle.table.specs.Lists.{call_at}
use Rattle.table.specs.Words.{bytes_of, call_start, table_of}
use Rattle.table.proofs.Cells.{call_at_lem}
use Rattle.table.proofs.Names.{alike}
use Rattle.table.proofs.Told.{four}
use Rattle.table_words.specs.Names.{word_in}
use Rattle.table_words.proofs.NameBytes.{name_at}
use Rattle.rule_zeros.specs.Masks.{past_masks}

-- ---- zeros in a row

zeros_each : (s : List ℕ) (at n : ℕ) → ((j : ℕ) → at ≤ j → j < at + n → get_or s j 0 ≡ 0) → zeros_at s at n ≡ true
unfolding zeros_at
zeros_each s at zero h = refl
zeros_each s at (suc n) h =
    rw (eq-eqb (get_or s at 0) 0 (h at (omega arith) (omega arith)), zeros_each s (at + 1) n (λ j l m. h j (omega arith) (omega arith)))

zeros_here : (s : List ℕ) (at n : ℕ) → zeros_at s at n ≡ true → (j : ℕ) → at ≤ j → j < at + n → get_or s j 0 ≡ 0
unfolding zeros_at
zeros_here s at zero h j l m = let z : ⊥ = omega arith in absurd z
zeros_here s at (suc n) h j l m =
    let k = both (eqb (get_or s at 0) 0) (zeros_at s (at + 1) n) h in
    ⊎_elim
    (λ (e : at ≡ j). rw (← e) (eqb-true (get_or s at 0) 0 k.0))
    (λ (b : at < j). zeros_here s (at + 1) n k.1 j (omega arith) (omega arith))
    (eq-or-lt_of_le l)

-- ---- one mask

-- the mask of a word's bytes 0 to 3 from byte r on
abbrev past_mask : ℕ → ℕ
past_mask r = 4294967296 - 256 ^ r

-- a number without digits from k on is below 2 ^ k
high_clear : (j k x : ℕ) → x < 2 ^ (j + k) → eqb (bit_and x (2 ^ (j + k) - 2 ^ k)) 0 ≡ ltb x (2 ^ k)
high_clear j k x h =
    let e : bit_and x (2 ^ (j + k) - 2 ^ k) ≡ x / 2 ^ k * 2 ^ k = and_high x j k ∙ ap (λ (y : ℕ). y * 2 ^ k) (shr_mod j k h) in
    rw e
    (alike _ _
    (λ z. lt-ltb x (2 ^ k) (omega (arith, split x k, eqb-true (x / 2 ^ k * 2 ^ k) 0 z, mod-lt x (pow_pos k))))
    (λ l. rw (div-eq_of_lt (ltb-true x (2 ^ k) l), zero-mul)))

module _ (s : List ℕ) (k : ℕ) (small : (m : ℕ) → m < 3 → get_or s (4 * k + m) 0 < 256) (fits : word_in s k < 4294967296) where
  first : get_or s (4 * k) 0 ≡ get_or s (4 * k + 0) 0
  first = ap (λ (j : ℕ). get_or s j 0) (sym (add-zero (4 * k)))

  -- a word below a byte's place has nothing in it
  byte_zero : (m : ℕ) → m < 4 → word_in s k < 256 ^ m → get_or s (4 * k + m) 0 ≡ 0
  byte_zero =
      four (λ m. word_in s k < 256 ^ m → get_or s (4 * k + m) 0 ≡ 0)
      (λ h. omega (arith, first))
      (λ h. omega arith)
      (λ h. omega arith)
      (λ h. omega arith)

  -- a word with nothing from a byte's place on is below it
  word_small : (r : ℕ) → r < 4 → ((m : ℕ) → r ≤ m → m < 4 → get_or s (4 * k + m) 0 ≡ 0) → word_in s k < 256 ^ r
  word_small =
      four (λ r. ((m : ℕ) → r ≤ m → m < 4 → get_or s (4 * k + m) 0 ≡ 0) → word_in s k < 256 ^ r)
      (λ z. omega (arith, first, z 0 (omega arith) (omega arith), z 1 (omega arith) (omega arith), z 2 (omega arith) (omega arith), z 3 (omega arith) (omega arith)))
      (λ z. omega (arith, first, small 0 (omega arith), z 1 (omega arith) (omega arith), z 2 (omega arith) (omega arith), z 3 (omega arith) (omega arith)))
      (λ z. omega (arith, first, small 0 (omega arith), small 1 (omega arith), z 2 (omega arith) (omega arith), z 3 (omega arith) (omega arith)))
      (λ z. omega (arith, first, small 0 (omega arith), small 1 (omega arith), small 2 (omega arith), z 3 (omega arith) (omega arith)))

  bytes_clear : (r : ℕ) → r < 4 → ltb (word_in s k) (256 ^ r) ≡ zeros_at s (4 * k + r) (4 - r)
  bytes_clear r l =
      alike _ _
      (λ h. zeros_each s (4 * k + r) (4 - r)
      (λ j m n.
      let e : 4 * k + (j - 4 * k) ≡ j = omega arith in
      let from : r ≤ j - 4 * k = omega arith in
      let to : j - 4 * k < 4 = omega arith in
      rw e at (byte_zero (j - 4 * k) to (lt_of_lt_of_le (ltb-true (word_in s k) (256 ^ r) h) (pow-le-pow_right (zero-lt-suc 255) from)))))
      (λ h. lt-ltb _ _ (word_small r l (λ m n q. zeros_here s (4 * k + r) (4 - r) h (4 * k + m) (omega arith) (omega arith))))

  mask_low : (r : ℕ) → r < 4 → eqb (bit_and (word_in s k) (past_mask r)) 0 ≡ ltb (word_in s k) (256 ^ r)
  mask_low =
      four (λ r. eqb (bit_and (word_in s k) (past_mask r)) 0 ≡ ltb (word_in s k) (256 ^ r))
      (high_clear 32 0 (word_in s k) fits)
      (high_clear 24 8 (word_in s k) fits)
      (high_clear 16 16 (word_in s k) fits)
      (high_clear 8 24 (word_in s k) fits)

  -- a mask takes what stands in a word from a byte on
  word_past : (r : ℕ) → eqb (bit_and (word_in s k) (past_mask r)) 0 ≡ zeros_at s (4 * k + r) (4 - r)
  word_past r = go (ltb r 4) refl
    where
      go : (b : Bool) → ltb r 4 ≡ b → eqb (bit_and (word_in s k) (past_mask r)) 0 ≡ zeros_at s (4 * k + r) (4 - r)
      go true e = let l = ltb-true r 4 e in mask_low r l ∙ bytes_clear r l
      go false e =
          let l : 4 ≤ r = ltb-false r 4 e in
          let none : past_mask r ≡ 0 = sub-eq-zero_of_le (pow-le-pow_right (zero-lt-suc 255) l) in
          rw (none, and_zero_r (word_in s k)) (sym (zeros_each s (4 * k + r) (4 - r) (λ j m n. let z : ⊥ = omega arith in absurd z)))

  -- the bytes past a name of n bytes, in one word more
  past_turn : (n : ℕ) → (zeros_at s n (4 * k - n) && eqb (bit_and (word_in s k) (past_mask (n - 4 * k))) 0) ≡ zeros_at s n (4 * (k + 1) - n)
  past_turn n =
      rw (word_past (n - 4 * k))
      (alike _ _
      (λ h. let p = both _ _ h in zeros_each s n (4 * (k + 1) - n) (λ j l m. go p j l m (ltb j (4 * k)) refl))
      (λ h.
      let here = zeros_here s n (4 * (k + 1) - n) h in
      rw (zeros_each s n (4 * k - n) (λ j l m. here j l (omega arith)))
      (zeros_each s (4 * k + (n - 4 * k)) (4 - (n - 4 * k)) (λ j l m. here j (omega arith) (omega arith)))))
    where
      go : (zeros_at s n (4 * k - n) ≡ true) × (zeros_at s (4 * k + (n - 4 * k)) (4 - (n - 4 * k)) ≡ true)
          → (j : ℕ) → n ≤ j → j < n + (4 * (k + 1) - n) → (b : Bool) → ltb j (4 * k) ≡ b → get_or s j 0 ≡ 0
      go p j l m true e = let q = ltb-true j (4 * k) e in zeros_here s n (4 * k - n) p.0 j l (omega arith)
      go p j l m false e =
          let q = ltb-false j (4 * k) e in
          zeros_here s (4 * k + (n - 4 * k)) (4 - (n - 4 * k)) p.1 j (omega arith) (omega arith)

-- ---- all masks

row_right : ℕ → Bool
row_right n = every_below (λ k. eqb (get_or past_masks (16 * (n % 4) + 8 - n / 4 + k) 0) (past_mask (n - 4 * k))) 8

rows_right : every_below row_right 33 ≡ true
unfolding every_below row_right
rows_right = refl

-- the masks of a name of n bytes stand in row n % 4, from the place 8 - n / 4 on
mask_at : (n k : ℕ) → n ≤ 32 → k < 8 → get_or past_masks (16 * (n % 4) + 8 - n / 4 + k) 0 ≡ past_mask (n - 4 * k)
unfolding row_right
mask_at n k h l =
    eqb-true _ _ (every_at (λ k. eqb (get_or past_masks (16 * (n % 4) + 8 - n / 4 + k) 0) (past_mask (n - 4 * k))) 8 (every_at row_right 33 rows_right n (omega arith)) k l)

-- ---- the loop over a name's words

not_both : (a b : Bool) → (not a || not b) ≡ not (a && b)
not_both true b = refl
not_both false b = refl

last_counts : (a z : Bool) → (z && not (a && z)) ≡ (z && not a)
last_counts true true = refl
last_counts false true = refl
last_counts a false = refl

pub past_none : (s : List ℕ) (n : ℕ) → zeros_at s n (4 * 0 - n) ≡ true
past_none s n = zeros_each s n (4 * 0 - n) (λ j l m. let z : ⊥ = omega arith in absurd z)

-- a word's first three bytes are below 256 by the table's shape; its fourth is where the word has 32 bits
bytes_small : (w : List ℕ) (i k : ℕ) → i < slots → k < 8 → (m : ℕ) → m < 3 → get_or (call_at (table_of w) i).name (4 * k + m) 0 < 256
bytes_small w i k l h m n =
    let x = get_or w (call_start i + 8 + k) 0 in
    rw (call_at_lem w i l, name_at w (call_start i + 8) k m h (omega arith))
    (four (λ m. m < 3 → get_or (bytes_of x) m 0 < 256) (λ q. omega arith) (λ q. omega arith) (λ q. omega arith) (λ q. let z : ⊥ = omega arith in absurd z) m (omega arith) n)

module _ (w masks : List ℕ) (i k x n : ℕ) (l : i < slots) (h : k < 8) (u : n ≤ 32) (a : masks ≡ past_masks)
    (e : x ≡ word_in (call_at (table_of w) i).name k) (fits : x < 4294967296) where
  abbrev masked : Bool
  masked = eqb (bit_and x (get_or masks (16 * (n % 4) + 8 - n / 4 + k) 0)) 0

  turned : (zeros_at (call_at (table_of w) i).name n (4 * k - n) && masked) ≡ zeros_at (call_at (table_of w) i).name n (4 * (k + 1) - n)
  turned = rw (a, mask_at n k u h, e) (past_turn (call_at (table_of w) i).name k (bytes_small w i k l h) (rw e at fits) n)

  pub clear_turn : (b : Bool) → b ≡ zeros_at (call_at (table_of w) i).name n (4 * k - n) → (b && masked) ≡ zeros_at (call_at (table_of w) i).name n (4 * (k + 1) - n)
  clear_turn b p = rw p turned

  pub ends_turn : (b : Bool) → b ≡ not (zeros_at (call_at (table_of w) i).name n (4 * k - n)) → (b || not masked) ≡ not (zeros_at (call_at (table_of w) i).name n (4 * (k + 1) - n))
  ends_turn b p = rw p (not_both (zeros_at (call_at (table_of w) i).name n (4 * k - n)) masked ∙ ap not turned)

-- where zeros stand past a name, a byte from the last one on is not zero just where the last one is not
pub ends_last : (s : List ℕ) (size : ℕ) → 0 < size → size ≤ 32
    → (zeros_at s size (32 - size) && not (zeros_at s (size - 1) (32 - (size - 1)))) ≡ (zeros_at s size (32 - size) && not (eqb (get_or s (size - 1) 0) 0))
unfolding zeros_at
ends_last s zero h l = let z : ⊥ = omega arith in absurd z
ends_last s (suc n) h l =
    let up : suc n - 1 + 1 ≡ suc n = omega arith in
    let more : 32 - (suc n - 1) ≡ suc (32 - suc n) = omega arith in
    rw (more, up) (last_counts (eqb (get_or s (suc n - 1) 0) 0) (zeros_at s (suc n) (32 - suc n)))
