-- The names that the node makes (02, A6) tell short IDs under 65,536 apart. Each has 20 bytes, of which the last is not
-- zero, so that nothing of it is padding (02, A1).
-- Assumes nothing.
use Prim.Native.Nat.{ℕ, zero, suc, ◌+◌, ◌-◌, ◌/◌, ◌%◌, ◌<◌}
use native.Mathlib.Nat.{zero-add}
use native.Mathlib.Omega.{arith}
use mathlib.Core.Path.{◌≡◌, refl, sym, ap, ◌∙◌}
use mathlib.Core.Logic.{◌≢◌}
use mathlib.Core.List.{[], ◌∷◌, ◌++◌}
use mathlib.Core.Bool.{Bool, true, false, cond}
use lib.Dec.{ltb}
use lib.ListN.{length, get_or}
use borrow.Author.Tests.{ltb-true, ltb-false}
use Rattle.numbers.specs.BigEndian.{Bytes}
use Rattle.numbers.specs.Search.{unpadded}
use Rattle.numbers.proofs.BigEndian.{EachByte, each_byte, each_append}
use Rattle.numbers.proofs.Padding.{unpadded_only}
use Rattle.spec_calls.specs.Made.{hex_digit, hex_digits, made_name}

-- ---- digits

digit_apart : (a b : ℕ) → hex_digit a ≡ hex_digit b → a ≡ b
unfolding hex_digit
digit_apart a b e = by (ltb a 10) (ltb b 10) refl refl
  where
    by : (x y : Bool) → ltb a 10 ≡ x → ltb b 10 ≡ y → a ≡ b
    by true true p q = omega (arith, (rw (p, q) at e))
    by true false p q = let z : ⊥ = omega (arith, (rw (p, q) at e), ltb-true a 10 p) in absurd z
    by false true p q = let z : ⊥ = omega (arith, (rw (p, q) at e), ltb-true b 10 q) in absurd z
    by false false p q = omega (arith, (rw (p, q) at e), ltb-false a 10 p, ltb-false b 10 q)

digit_byte : (d : ℕ) → d < 16 → hex_digit d < 256
unfolding hex_digit
digit_byte d h = by (ltb d 10)
  where
    by : (b : Bool) → cond b (0x30 + d) (0x61 + (d - 10)) < 256
    by true = omega arith
    by false = omega arith

digit_some : (d : ℕ) → 0 < hex_digit d
unfolding hex_digit
digit_some d = by (ltb d 10) refl
  where
    by : (b : Bool) → ltb d 10 ≡ b → 0 < hex_digit d
    by true p = rw p (omega arith)
    by false p = rw p (omega arith)

digits_bytes : (n v : ℕ) → EachByte (hex_digits n v)
unfolding hex_digits
digits_bytes zero v = tt
digits_bytes (suc n) v = each_append (hex_digits n (v / 16)) (hex_digit (v % 16) ∷ []) (digits_bytes n (v / 16)) (digit_byte (v % 16) (omega arith), tt)

-- ---- a number below 65,536 by its four hex digits

one_digit : (i j : ℕ) → i / 16 ≡ j / 16 → i % 16 ≡ j % 16 → i ≡ j
one_digit i j a b = omega arith

top_digit : (i : ℕ) → i < 65536 → i / 16 / 16 / 16 % 16 ≡ i / 16 / 16 / 16
top_digit i h = omega arith

four_digits : (i j : ℕ) → i < 65536 → j < 65536 → i / 16 / 16 / 16 % 16 ≡ j / 16 / 16 / 16 % 16 → i / 16 / 16 % 16 ≡ j / 16 / 16 % 16
    → i / 16 % 16 ≡ j / 16 % 16 → i % 16 ≡ j % 16 → i ≡ j
four_digits i j h g a b c d =
    let top : i / 16 / 16 / 16 ≡ j / 16 / 16 / 16 = sym (top_digit i h) ∙ a ∙ top_digit j g in
    one_digit i j (one_digit (i / 16) (j / 16) (one_digit (i / 16 / 16) (j / 16 / 16) top b) c) d

-- ---- names

module _ (endpoint sender : ℕ) where
  -- one pair's short IDs have names of their own
  pub name_apart : (i j : ℕ) → i < 65536 → j < 65536 → made_name endpoint sender i ≡ made_name endpoint sender j → i ≡ j
  unfolding made_name hex_digits
  name_apart i j h g e =
      let digit : (k : ℕ) → get_or (made_name endpoint sender i) k 0 ≡ get_or (made_name endpoint sender j) k 0 = λ k. ap (λ l. get_or l k 0) e in
      four_digits i j h g (digit_apart _ _ (digit 16)) (digit_apart _ _ (digit 17)) (digit_apart _ _ (digit 18)) (digit_apart _ _ (digit 19))

  pub name_length_lem : (i : ℕ) → length (made_name endpoint sender i) ≡ 20
  unfolding made_name hex_digits
  name_length_lem i = refl

  last_digit : (i : ℕ) → get_or (made_name endpoint sender i) 19 0 ≡ hex_digit (i % 16)
  unfolding made_name hex_digits
  last_digit i = refl

  -- the last byte is not zero, as an opening asks it of a long ID
  pub name_ends_lem : (i k : ℕ) → length (made_name endpoint sender i) ≡ suc k → get_or (made_name endpoint sender i) k 0 ≢ 0
  name_ends_lem i k h z =
      let last : k ≡ 19 = omega (arith, name_length_lem i) in
      let some : 0 < get_or (made_name endpoint sender i) k 0 = rw (last, last_digit i) (digit_some (i % 16)) in
      omega arith

  -- each of its digits is a byte
  pub name_bytes : (i : ℕ) → Bytes (made_name endpoint sender i)
  unfolding made_name
  name_bytes i =
      each_byte (made_name endpoint sender i)
      (each_append (hex_digits 8 sender ++ hex_digits 8 endpoint) (hex_digits 4 i) (each_append (hex_digits 8 sender) (hex_digits 8 endpoint) (digits_bytes 8 sender) (digits_bytes 8 endpoint)) (digits_bytes 4 i))

  -- none of it is cut off as padding
  pub name_unpadded : (i : ℕ) → unpadded (made_name endpoint sender i) 0 20 ≡ 20
  name_unpadded i = sym (unpadded_only (made_name endpoint sender i) 0 20 20 (record {
    most = omega arith;
    zeros = λ j a b. let z : ⊥ = omega arith in absurd z;
    last = λ k h. rw zero-add (name_ends_lem i k (name_length_lem i ∙ h));
  }))
