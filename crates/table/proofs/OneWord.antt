-- The laws of one word of 64 bits: its first clear bit is its trailing ones, the last set one is by its leading zeros; a bit
-- that is set is set, one that is cleared is clear, and the others are as they were.
-- Assumes nothing.
use Rattle.std.proofs.Common.{◌≡◌, ℕ, zero, suc, ◌+◌, ◌-◌, ◌*◌, ◌/◌, ◌%◌, ◌^◌, ◌<◌, ◌≤◌, min, Bool, true, false, cond, eqb, sym, refl, ap, ◌∙◌, ap₂, suc-le-suc, lt_of_lt_of_le, add-zero, mod-eq_of_lt, one-mul, pow-suc, div-one, arith, pow_mono, eq-eqb, ne_eqb, eqb-true}
use native.Mathlib.Nat.{pow-succ', div-div-eq-div-mul, div-eq_of_lt, div-eq_of_lt-le, zero-min, min-zero}
use lib.Pow.{pow-lt}
use lib.Bits.{bit_and, bit_or, and_step, and_mask, or_add_and, or_lt}
use lib.Count.{count_trailing_zeros, under, count_leading_zeros, leading_of_zero, leading_top}
use borrow.Author.Tests.{eqb-false}
use Rattle.lists.specs.Below.{first_not}
use Rattle.lists.specs.Chain.{last_below}
use Rattle.lists.proofs.Search.{not_most, not_below, not_here, not_ext, not_next}
use Rattle.lists.proofs.Chain.{last_only, last_rest, last_none}
use Rattle.table.specs.Word.{is_set, first_clear, with_set, with_clear}

abbrev bit : ℕ → ℕ → ℕ
bit n j = n / 2 ^ j % 2

-- a bit further up is a bit of the half
half_bit : (n j : ℕ) → bit n (suc j) ≡ bit (n / 2) j
half_bit n j = rw (pow-succ', div-div-eq-div-mul)

-- ---- the first clear bit: every bit below it is set, and it is clear

pub clear_most : (w : ℕ) → first_clear w ≤ 64
clear_most w = not_most (is_set w) 64 0

pub clear_below : (w j : ℕ) → j < first_clear w → is_set w j ≡ true
clear_below w j h = not_below (is_set w) 64 0 j (omega arith) h

pub clear_here : (w : ℕ) → first_clear w < 64 → is_set w (first_clear w) ≡ false
clear_here w h = not_here (is_set w) 64 0 h

-- where m is the complement of n in k digits, the trailing zeros of m are the trailing ones of n
trailing : (k m n : ℕ) → m + n + 1 ≡ 2 ^ k → count_trailing_zeros k m ≡ first_not (is_set n) k 0
unfolding count_trailing_zeros first_not
trailing zero m n e = refl
trailing (suc k) m n e =
    let p = pow-suc 2 k in
    by (m % 2) (n % 2) (omega (arith, p)) (trailing k (m / 2) (n / 2) (omega (arith, p)))
    ∙ sym (ap (λ b. cond b (first_not (is_set n) k 1) 0) (ap (λ (d : ℕ). eqb (d % 2) 1) (div-one n)))
  where
    next : first_not (is_set n) k 1 ≡ suc (first_not (is_set (n / 2)) k 0)
    next = not_next (is_set n) k 0 ∙ ap suc (not_ext (λ j. is_set n (suc j)) (is_set (n / 2)) k 0 (λ j l. ap (λ (d : ℕ). eqb d 1) (half_bit n j)))

    by : (c d : ℕ) → c + d ≡ 1 → count_trailing_zeros k (m / 2) ≡ first_not (is_set (n / 2)) k 0
        → under c (count_trailing_zeros k (m / 2)) ≡ cond (eqb d 1) (first_not (is_set n) k 1) 0
    by zero d q i = let one : d ≡ 1 = omega arith in rw (one, next, i)
    by (suc c) d q i = rw (ne_eqb d 1 (λ (z : d ≡ 1). omega arith))

pub trailing_is : (w : ℕ) → w < 2 ^ 64 → count_trailing_zeros 64 (2 ^ 64 - 1 - w) ≡ first_clear w
trailing_is w f = trailing 64 (2 ^ 64 - 1 - w) w (omega arith)

-- ---- the last set bit: a word's leading zeros stand above it

clear_above : (w n : ℕ) → w < 2 ^ n → (i : ℕ) → n ≤ i → is_set w i ≡ false
clear_above w n h i l = rw (div-eq_of_lt (lt_of_lt_of_le h (pow_mono l)))

pub no_bits : (i : ℕ) → is_set 0 i ≡ false
no_bits i = clear_above 0 0 (omega arith) i (omega arith)

-- the highest digit of a number of k digits that is not 0
top_set : (w j : ℕ) → 2 ^ j ≤ w → w < 2 ^ suc j → is_set w j ≡ true
top_set w j l h = let one : w / 2 ^ j ≡ 1 = div-eq_of_lt-le (2 ^ j) (omega arith) (omega (arith, pow-suc 2 j)) in rw one

pub leading_is : (w : ℕ) → w < 2 ^ 64 → 64 - count_leading_zeros 64 w ≡ last_below (is_set w) 64
leading_is w f = by (eqb w 0) refl
  where
    by : (b : Bool) → eqb w 0 ≡ b → 64 - count_leading_zeros 64 w ≡ last_below (is_set w) 64
    by true e =
        let z : w ≡ 0 = eqb-true w 0 e in
        rw (z, leading_of_zero 64, last_rest (is_set 0) 0 64 (omega arith) (λ j a b. no_bits j), last_none (is_set 0))
    by false e =
        let t = leading_top 64 w (omega (arith, eqb-false w 0 e)) f in
        omega (arith, t.1, last_only (is_set w) 64 t.0 (omega (arith, t.1)) (top_set w t.0 t.2 t.3) (λ j a b. clear_above w (suc t.0) t.3 j a))

-- ---- a bit put in where there is none, and taken out where there is one

half_put : (i w : ℕ) → (w + 2 ^ suc i) / 2 ≡ w / 2 + 2 ^ i
half_put i w = omega (arith, pow-suc 2 i)

put_own : (i w : ℕ) → bit w i ≡ 0 → bit (w + 2 ^ i) i ≡ 1
put_own zero w z = rw div-one (omega (arith, (rw div-one at z)))
put_own (suc i) w z = half_bit (w + 2 ^ suc i) i ∙ ap (λ (n : ℕ). bit n i) (half_put i w) ∙ put_own i (w / 2) (sym (half_bit w i) ∙ z)

put_other : (i j w : ℕ) → bit w i ≡ 0 → (j ≡ i → ⊥) → bit (w + 2 ^ i) j ≡ bit w j
put_other zero zero w z n = absurd (n refl)
put_other zero (suc j) w z n = half_bit (w + 1) j ∙ ap (λ (n : ℕ). bit n j) (omega (arith, (rw div-one at z))) ∙ sym (half_bit w j)
put_other (suc i) zero w z n = rw (div-one (w + 2 ^ suc i), div-one w) (omega (arith, pow-suc 2 i))
put_other (suc i) (suc j) w z n =
    half_bit (w + 2 ^ suc i) j ∙ ap (λ (n : ℕ). bit n j) (half_put i w)
    ∙ put_other i j (w / 2) (sym (half_bit w i) ∙ z) (λ e. n (ap suc e)) ∙ sym (half_bit w j)

take_own : (i w : ℕ) → bit w i ≡ 1 → (2 ^ i ≤ w) × (bit (w - 2 ^ i) i ≡ 0)
take_own zero w z = let q : w % 2 ≡ 1 = rw div-one at z in (omega arith, rw div-one (omega arith))
take_own (suc i) w z =
    let h = take_own i (w / 2) (sym (half_bit w i) ∙ z) in
    let p = pow-suc 2 i in
    let l = h.0 in
    (omega (arith, p), half_bit (w - 2 ^ suc i) i ∙ ap (λ (n : ℕ). bit n i) (omega (arith, p)) ∙ h.1)

clear : (w i : ℕ) → is_set w i ≡ false → bit w i ≡ 0
clear w i h = omega (arith, eqb-false (bit w i) 1 h)

set : (w i : ℕ) → is_set w i ≡ true → bit w i ≡ 1
set w i h = eqb-true (bit w i) 1 h

-- ---- a bit set, a bit cleared

pub set_here : (w i : ℕ) → is_set (with_set w i) i ≡ true
unfolding with_set
set_here w i = by (is_set w i) refl
  where
    by : (b : Bool) → is_set w i ≡ b → is_set (cond b w (w + 2 ^ i)) i ≡ true
    by true e = e
    by false e = eq-eqb (bit (w + 2 ^ i) i) 1 (put_own i w (clear w i e))

pub set_other : (w i j : ℕ) → (j ≡ i → ⊥) → is_set (with_set w i) j ≡ is_set w j
unfolding with_set
set_other w i j n = by (is_set w i) refl
  where
    by : (b : Bool) → is_set w i ≡ b → is_set (cond b w (w + 2 ^ i)) j ≡ is_set w j
    by true e = refl
    by false e = ap (λ (d : ℕ). eqb d 1) (put_other i j w (clear w i e) n)

pub clear_own : (w i : ℕ) → is_set (with_clear w i) i ≡ false
unfolding with_clear
clear_own w i = by (is_set w i) refl
  where
    by : (b : Bool) → is_set w i ≡ b → is_set (cond b (w - 2 ^ i) w) i ≡ false
    by true e = ap (λ (d : ℕ). eqb d 1) (take_own i w (set w i e)).1
    by false e = e

pub clear_other : (w i j : ℕ) → (j ≡ i → ⊥) → is_set (with_clear w i) j ≡ is_set w j
unfolding with_clear
clear_other w i j n = by (is_set w i) refl
  where
    by : (b : Bool) → is_set w i ≡ b → is_set (cond b (w - 2 ^ i) w) j ≡ is_set w j
    by true e =
        let h = take_own i w (set w i e) in
        let l = h.0 in
        let back : w - 2 ^ i + 2 ^ i ≡ w = omega arith in
        ap (λ (d : ℕ). eqb d 1) (sym (put_other i j (w - 2 ^ i) h.1 n) ∙ ap (λ (v : ℕ). bit v j) back)
    by false e = refl

-- ---- as the code makes it: the mask of one bit, `|` and `& !`

pub mask : (i : ℕ) → i < 64 → 1 * 2 ^ i % 2 ^ 64 ≡ 2 ^ i
mask i h = rw one-mul (mod-eq_of_lt (pow-lt h))

and_next : (i w : ℕ) → bit_and w (2 ^ suc i) ≡ bit_and (w / 2) (2 ^ i) * 2
and_next i w =
    let half : 2 ^ suc i / 2 ≡ 2 ^ i = omega (arith, pow-suc 2 i) in
    let even : 2 ^ suc i % 2 ≡ 0 = omega (arith, pow-suc 2 i) in
    and_step w (2 ^ suc i) ∙ ap₂ (λ (n x : ℕ). bit_and (w / 2) n * 2 + min (w % 2) x) half even ∙ rw (min-zero (w % 2), add-zero)

and_clear : (i w : ℕ) → bit w i ≡ 0 → bit_and w (2 ^ i) ≡ 0
and_clear zero w z = and_mask w 1 ∙ (rw div-one at z)
and_clear (suc i) w z = and_next i w ∙ ap (λ (n : ℕ). n * 2) (and_clear i (w / 2) (sym (half_bit w i) ∙ z))

and_set : (i w : ℕ) → bit w i ≡ 1 → bit_and w (2 ^ i) ≡ 2 ^ i
and_set zero w z = and_mask w 1 ∙ (rw div-one at z)
and_set (suc i) w z = and_next i w ∙ ap (λ (n : ℕ). n * 2) (and_set i (w / 2) (sym (half_bit w i) ∙ z)) ∙ sym (pow-suc 2 i)

pub or_set : (w i : ℕ) → bit_or w (2 ^ i) ≡ with_set w i
unfolding with_set
or_set w i = by (is_set w i) refl
  where
    by : (b : Bool) → is_set w i ≡ b → bit_or w (2 ^ i) ≡ cond b w (w + 2 ^ i)
    by true e = omega (arith, or_add_and w (2 ^ i), and_set i w (set w i e))
    by false e = omega (arith, or_add_and w (2 ^ i), and_clear i w (clear w i e))

-- what a word has in common with a mask, and with the mask's complement c, is the whole word
mins : (x c d : ℕ) → x < 2 → c + d ≡ 1 → min x c + min x d ≡ x
mins zero c d l e = rw (zero-min c, zero-min d) refl
mins (suc zero) zero (suc zero) l e = refl
mins (suc zero) (suc zero) zero l e = refl
mins (suc zero) zero zero l e = let z : ⊥ = omega arith in absurd z
mins (suc zero) (suc c) (suc d) l e = let z : ⊥ = omega arith in absurd z
mins (suc zero) zero (suc (suc d)) l e = let z : ⊥ = omega arith in absurd z
mins (suc zero) (suc (suc c)) zero l e = let z : ⊥ = omega arith in absurd z
mins (suc (suc x)) c d l e = let z : ⊥ = omega arith in absurd z

and_rest : (k a c d : ℕ) → a < 2 ^ k → c + d + 1 ≡ 2 ^ k → bit_and a c + bit_and a d ≡ a
and_rest zero a c d l e = let z : a ≡ 0 = omega arith in rw z refl
and_rest (suc k) a c d l e =
    let p = pow-suc 2 k in
    omega (
      arith,
      and_step a c,
      and_step a d,
      mins (a % 2) (c % 2) (d % 2) (omega arith) (omega (arith, p)),
      and_rest k (a / 2) (c / 2) (d / 2) (omega (arith, p)) (omega (arith, p)),
    )

pub and_clear_bit : (w i : ℕ) → w < 2 ^ 64 → i < 64 → bit_and w (2 ^ 64 - 1 - 2 ^ i) ≡ with_clear w i
unfolding with_clear
and_clear_bit w i f h = by (is_set w i) refl
  where
    rest : bit_and w (2 ^ 64 - 1 - 2 ^ i) + bit_and w (2 ^ i) ≡ w
    rest = let l : 2 ^ i < 2 ^ 64 = pow-lt h in and_rest 64 w (2 ^ 64 - 1 - 2 ^ i) (2 ^ i) f (omega arith)

    by : (b : Bool) → is_set w i ≡ b → bit_and w (2 ^ 64 - 1 - 2 ^ i) ≡ cond b (w - 2 ^ i) w
    by true e = omega (arith, rest, and_set i w (set w i e))
    by false e = omega (arith, rest, and_clear i w (clear w i e))

-- the word stays one of 64 bits
pub set_fits : (w i : ℕ) → w < 2 ^ 64 → i < 64 → with_set w i < 2 ^ 64
set_fits w i f h = rw (← (or_set w i)) (or_lt 64 w (2 ^ i) f (pow-lt h))

pub clear_fits : (w i : ℕ) → w < 2 ^ 64 → with_clear w i < 2 ^ 64
unfolding with_clear
clear_fits w i f = by (is_set w i)
  where
    by : (b : Bool) → cond b (w - 2 ^ i) w < 2 ^ 64
    by true = omega arith
    by false = f

-- two words of n bits that are the same in every bit are one
pub word_same : (n w v : ℕ) → w < 2 ^ n → v < 2 ^ n → ((i : ℕ) → i < n → is_set w i ≡ is_set v i) → w ≡ v
word_same zero w v a b h = omega arith
word_same (suc n) w v a b h =
    let half : w / 2 ≡ v / 2 = word_same n (w / 2) (v / 2) (omega (arith, pow-suc 2 n)) (omega (arith, pow-suc 2 n)) (λ i l. rw (← (half_bit w i), ← (half_bit v i)) (h (suc i) (suc-le-suc l))) in
    let odd : eqb (w % 2) 1 ≡ eqb (v % 2) 1 = rw (div-one, div-one) at (h 0 (omega arith)) in
    by (eqb (v % 2) 1) refl odd half
  where
    by : (b : Bool) → eqb (v % 2) 1 ≡ b → eqb (w % 2) 1 ≡ eqb (v % 2) 1 → w / 2 ≡ v / 2 → w ≡ v
    by true e odd half = let x = eqb-true (w % 2) 1 (odd ∙ e) in let y = eqb-true (v % 2) 1 e in omega arith
    by false e odd half = let x = eqb-false (w % 2) 1 (odd ∙ e) in let y = eqb-false (v % 2) 1 e in omega arith
