-- Hex digits and the words that have them: a digit's value, four and eight digits, the number that four digits are of.
-- Assumes nothing.
use Prim.Native.Nat.{ℕ, zero, suc, ◌+◌, ◌*◌, ◌/◌, ◌%◌, ◌≤◌, ◌<◌}
use native.Mathlib.Nat.{zero-add}
use native.Mathlib.Omega.{arith}
use mathlib.Core.Path.{◌≡◌, refl, sym, ap, ◌∙◌}
use mathlib.Core.List.{[], ◌∷◌, ◌++◌}
use mathlib.Core.Bool.{Bool, true, false}
use lib.Dec.{ltb, eqb}
use lib.ListN.{get_or}
use borrow.Author.Tests.{lt-ltb, le-ltb, ltb-true, ltb-false, eq-eqb, eqb-true}
use Rattle.lists.proofs.Below.{below_ext}
use Rattle.table.specs.Rules.{same_bytes}
use Rattle.table.specs.Words.{bytes_of}
use Rattle.table.proofs.SameBytes.{same_bytes_lem}
use Rattle.table.proofs.Names.{alike, same_self, name_told}
use Rattle.spec_calls.specs.Made.{hex_digit, hex_digits, made_name}
use Rattle.spec_calls.proofs.MadeName.{name_apart}
use Rattle.std.proofs.Common.{Some, None}
use Rattle.make_ids.specs.Digits.{ValueOf, NumberOf}

-- ---- one digit

pub digit_low : (d : ℕ) → d < 10 → 0x30 + d ≡ hex_digit d
unfolding hex_digit
digit_low d h = rw (lt-ltb d 10 h)

pub digit_high : (d : ℕ) → 10 ≤ d → 0x57 + d ≡ hex_digit d
unfolding hex_digit
digit_high d h = rw (le-ltb d 10 h) (omega arith)

-- a digit below `a` is one of the first ten
module _ (b : ℕ) where
  pub value_low : b < 0x61 → ValueOf b (b % 16)
  value_low h = record { value = λ d s e. by d s e (ltb d 10) refl; small = omega arith }
    where
      by : (d : ℕ) → d < 16 → b ≡ hex_digit d → (t : Bool) → ltb d 10 ≡ t → b % 16 ≡ d
      by d s e true t = omega (arith, digit_low d (ltb-true d 10 t), ltb-true d 10 t)
      by d s e false t = let z : ⊥ = omega (arith, digit_high d (ltb-false d 10 t), ltb-false d 10 t) in absurd z

  pub value_high : 0x61 ≤ b → ValueOf b ((b % 16 + 9) % 16)
  value_high h = record { value = λ d s e. by d s e (ltb d 10) refl; small = omega arith }
    where
      by : (d : ℕ) → d < 16 → b ≡ hex_digit d → (t : Bool) → ltb d 10 ≡ t → (b % 16 + 9) % 16 ≡ d
      by d s e true t = let z : ⊥ = omega (arith, digit_low d (ltb-true d 10 t), ltb-true d 10 t) in absurd z
      by d s e false t = omega (arith, digit_high d (ltb-false d 10 t), ltb-false d 10 t)

-- ---- four digits, and eight

pub four_digits : (v : ℕ) → hex_digits 4 v ≡ hex_digit (v / 4096 % 16) ∷ hex_digit (v / 256 % 16) ∷ hex_digit (v / 16 % 16) ∷ hex_digit (v % 16) ∷ []
unfolding hex_digits
four_digits v =
    let third : v / 4096 ≡ v / 16 / 16 / 16 = omega arith in
    let second : v / 256 ≡ v / 16 / 16 = omega arith in
    rw (third, second)

pub eight_digits : (v : ℕ) → hex_digits 4 (v / 65536) ++ hex_digits 4 v ≡ hex_digits 8 v
unfolding hex_digits
eight_digits v =
    let fourth : v / 65536 ≡ v / 16 / 16 / 16 / 16 = omega arith in
    rw fourth

digits_apart : (i j : ℕ) → i < 65536 → j < 65536 → hex_digits 4 i ≡ hex_digits 4 j → i ≡ j
unfolding made_name
digits_apart i j h g e = name_apart 0 0 i j h g (ap (λ l. hex_digits 8 0 ++ hex_digits 8 0 ++ l) e)

-- ---- a word's number

-- a word is told by its bytes
pub word_told : (x y : ℕ) → bytes_of x ≡ bytes_of y → x ≡ y
word_told x y e = name_told (x ∷ []) (y ∷ []) 0 0 (below_ext _ _ 8 (λ k l. cell k)) 0 (omega arith)
  where
    cell : (k : ℕ) → bytes_of (get_or (x ∷ []) (0 + k) 0) ≡ bytes_of (get_or (y ∷ []) (0 + k) 0)
    cell zero = e
    cell (suc k) = rw zero-add

-- a number below 4,096 is its last three digits
three_values : (n : ℕ) → n < 4096 → n / 256 % 16 * 256 + n / 16 % 16 * 16 + n % 16 ≡ n
three_values n h =
    let first : n / 256 % 16 ≡ n / 16 / 16 = omega arith in
    rw first (omega (arith, whole (n / 16), whole n))
  where
    whole : (m : ℕ) → m ≡ m / 16 * 16 + m % 16
    whole m = omega arith

module _ (word b c d : ℕ) (vb : ValueOf (word / 256 % 256) b) (vc : ValueOf (word / 65536 % 256) c) (vd : ValueOf (word / 16777216) d) where
  abbrev read : ℕ
  read = b * 256 + c * 16 + d

  pub read_fits : read < 4096
  read_fits = omega (arith, vb.small, vc.small, vd.small)

  -- digits are read as they were written
  read_back : (n : ℕ) → n < 4096 → bytes_of word ≡ hex_digits 4 n → read ≡ n
  read_back n h e =
      let s = e ∙ four_digits n in
      rw (
        vb.value (n / 256 % 16) (omega arith) (ap (λ l. get_or l 1 0) s),
        vc.value (n / 16 % 16) (omega arith) (ap (λ l. get_or l 2 0) s),
        vd.value (n % 16) (omega arith) (ap (λ l. get_or l 3 0) s),
      )
      (three_values n h)

  module _ (again : ℕ) (written : bytes_of again ≡ hex_digits 4 read) where
    pub number_read : again ≡ word → NumberOf word (Some read)
    number_read e = record { number = λ n l h. alike _ _ (there n) (back n h); fits = read_fits }
      where
        digits : bytes_of word ≡ hex_digits 4 read
        digits = rw (← e) written

        there : (n : ℕ) → eqb n read ≡ true → same_bytes (hex_digits 4 n) (bytes_of word) ≡ true
        there n t = rw (eqb-true n read t, digits) (same_self (hex_digits 4 read))

        back : (n : ℕ) → n < 4096 → same_bytes (hex_digits 4 n) (bytes_of word) ≡ true → eqb n read ≡ true
        back n h t = eq-eqb n read (digits_apart n read (omega arith) (omega (arith, read_fits)) (same_bytes_lem _ _ t ∙ digits))

    pub number_none : (again ≡ word → ⊥) → NumberOf word None
    number_none o = record { number = λ n l h. sym (by n h (same_bytes (hex_digits 4 n) (bytes_of word)) refl); fits = tt }
      where
        by : (n : ℕ) → n < 4096 → (t : Bool) → same_bytes (hex_digits 4 n) (bytes_of word) ≡ t → t ≡ false
        by n h true t =
            let e = same_bytes_lem (hex_digits 4 n) (bytes_of word) t in
            absurd (o (word_told again word (written ∙ ap (hex_digits 4) (read_back n h (sym e)) ∙ e)))
        by n h false t = refl
