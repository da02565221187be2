-- The checksum's sum: it leaves no carry, a carry may go round after each word, and a field that makes it up to FFFF does
-- so.
-- Assumes nothing.
use Rattle.std.proofs.Common.{◌≡◌, ℕ, zero, suc, ◌+◌, ◌-◌, ◌*◌, ◌/◌, ◌%◌, ◌<◌, ◌≤◌, Bool, true, false, cond, eqb, List, [], ◌∷◌, length, get_or, set, refl, ap, ◌∙◌, arith, length-set, get_or-set_other, get_or-set_same, eqb-true}
use lib.Seq.{sets, length-sets}
use Rattle.numbers.specs.BigEndian.{Bytes, be16_at, bytes16}
use Rattle.numbers.specs.Checksum.{first_words, all_round, words_sum}
use Rattle.numbers.specs.Claims.{NoCarryLeft}

pub words_bound : (s : List ℕ) → Bytes s → (n : ℕ) → first_words s n ≤ 65535 * n
unfolding first_words
words_bound s b zero = omega arith
words_bound s b (suc n) = omega (arith, words_bound s b n, b (2 * n), b (2 * n + 1))

rounds : (t : ℕ) → t < 65536 * 65536 → all_round t < 65536
unfolding all_round
rounds t h = omega arith

pub no_carry_left : NoCarryLeft
unfolding words_sum
no_carry_left s b h = rounds (first_words s (length s / 2)) (omega (arith, words_bound s b (length s / 2)))

-- ---- the carry after each word

-- bringing carries round takes off so many times FFFF
off : ℕ → ℕ
off t = t / 65536 + (t % 65536 + t / 65536) / 65536

off_is : (t : ℕ) → t ≡ 65535 * off t + all_round t
unfolding all_round off
off_is t = omega arith

-- 0 is left of 0 only
some_left : (t : ℕ) → 1 ≤ t → 1 ≤ all_round t
unfolding all_round
some_left t h = omega arith

-- two numbers from 1 to FFFF that differ by a multiple of FFFF are one
one : (x y p q t : ℕ) → t ≡ 65535 * p + x → t ≡ 65535 * q + y → x < 65536 → y < 65536 → 1 ≤ x → 1 ≤ y → x ≡ y
one x y p q t d e hx hy lx ly = omega arith

-- a carry brought round now or with those to come: the same
pub round_step : (t w : ℕ) → t + w < 65536 * 65536 → all_round (all_round t + w) ≡ all_round (t + w)
round_step t w h = by (t + w) refl
  where
    less : all_round t + w ≤ t + w
    less = omega (arith, off_is t)

    some : (n m : ℕ) → t ≡ n → t + w ≡ suc m → 1 ≤ all_round t + w
    some zero m e d = omega arith
    some (suc n) m e d = omega (arith, some_left t (omega arith))

    by : (n : ℕ) → t + w ≡ n → all_round (all_round t + w) ≡ all_round (t + w)
    by zero e = omega (arith, less, off_is (all_round t + w), off_is (t + w))
    by (suc n) e =
        one _ _ (off t + off (all_round t + w)) (off (t + w)) (t + w) (omega (arith, off_is t, off_is (all_round t + w))) (off_is (t + w))
        (rounds (all_round t + w) (omega (arith, less))) (rounds (t + w) h) (some_left (all_round t + w) (some t n refl e)) (some_left (t + w) (omega arith))

-- ---- the field that makes the sum FFFF

-- FFFF, and any number of times FFFF that is in reach, comes to FFFF
times : (k : ℕ) → k ≤ 65535 → all_round (65535 * suc k) ≡ 65535
unfolding all_round
times k h = omega arith

-- what a sum lacks, FFFF where it lacks nothing, makes it FFFF
made_up : (t : ℕ) → t ≤ 65535 * 65535 → all_round (t + cond (eqb (65535 - all_round t) 0) 65535 (65535 - all_round t)) ≡ 65535
made_up t h = by (eqb (65535 - all_round t) 0) refl
  where
    by : (b : Bool) → eqb (65535 - all_round t) 0 ≡ b → all_round (t + cond b 65535 (65535 - all_round t)) ≡ 65535
    by true e =
        let n : 65535 - all_round t ≡ 0 = eqb-true _ _ e in
        let sum : t + 65535 ≡ 65535 * suc (off t + 1) = omega (arith, n, off_is t, rounds t (omega arith)) in
        ap all_round sum ∙ times (off t + 1) (omega (arith, sum))
    by false e =
        let sum : t + (65535 - all_round t) ≡ 65535 * suc (off t) = omega (arith, off_is t, rounds t (omega arith)) in
        ap all_round sum ∙ times (off t) (omega (arith, sum))

module _ (s : List ℕ) (h l : ℕ) (long : 4 ≤ length s) (free : be16_at s 2 ≡ 0) where
  abbrev with_field : List ℕ
  with_field = sets s 2 (h ∷ l ∷ [])

  elsewhere : (i : ℕ) → (i ≡ 2 → ⊥) → (i ≡ 3 → ⊥) → get_or with_field i 0 ≡ get_or s i 0
  elsewhere i n m = get_or-set_other (set s 2 h) 3 i l 0 m ∙ get_or-set_other s 2 i h 0 n

  at_2 : get_or with_field 2 0 ≡ h
  at_2 = get_or-set_other (set s 2 h) 3 2 l 0 (λ e. omega (arith, e)) ∙ get_or-set_same s 2 h 0 (omega arith)

  at_3 : get_or with_field 3 0 ≡ l
  at_3 = get_or-set_same (set s 2 h) 3 l 0 (simp length-set (omega arith))

  -- the field's word comes to the others
  words_with : (n : ℕ) → first_words with_field (suc (suc n)) ≡ first_words s (suc (suc n)) + (h * 256 + l)
  unfolding first_words
  words_with zero = omega (arith, elsewhere 0 (λ e. omega (arith, e)) (λ e. omega (arith, e)), elsewhere 1 (λ e. omega (arith, e)) (λ e. omega (arith, e)), at_2, at_3, free)
  words_with (suc n) =
      let k = 2 * suc (suc n) in
      omega (arith, words_with n, elsewhere k (λ e. omega (arith, e)) (λ e. omega (arith, e)), elsewhere (k + 1) (λ e. omega (arith, e)) (λ e. omega (arith, e)))

-- a message whose field is free, filled with what its words lack
pub filled_sum : (s : List ℕ) → Bytes s → 4 ≤ length s → length s ≤ 131070 → be16_at s 2 ≡ 0
    → words_sum (sets s 2 (bytes16 (cond (eqb (65535 - words_sum s) 0) 65535 (65535 - words_sum s)))) ≡ 65535
unfolding words_sum
filled_sum s b long short free =
    let t = first_words s (length s / 2) in
    let c = cond (eqb (65535 - all_round t) 0) 65535 (65535 - all_round t) in
    rw length-sets (ap all_round (words c (length s / 2) (omega arith)) ∙ made_up t (omega (arith, words_bound s b (length s / 2))))
  where
    words : (c n : ℕ) → 2 ≤ n → first_words (sets s 2 (bytes16 c)) n ≡ first_words s n + c
    words c zero h = let z : ⊥ = omega arith in absurd z
    words c (suc zero) h = let z : ⊥ = omega arith in absurd z
    words c (suc (suc n)) h = omega (arith, words_with s (c / 256) (c % 256) long free n)
