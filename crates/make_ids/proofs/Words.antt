-- Names made of a pair and a number, by the words that the table has them in.
-- Assumes nothing.
use Prim.Native.Nat.{ℕ, ◌+◌, ◌/◌, ◌%◌, ◌≤◌, ◌<◌, min}
use native.Mathlib.Omega.{arith}
use mathlib.Core.Path.{◌≡◌, refl, sym, ap, ap₂, ◌∙◌}
use mathlib.Core.List.{List, [], ◌∷◌, ◌++◌}
use mathlib.Core.Bool.{Bool, true, false, not, ◌&&◌}
use lib.Dec.{eqb}
use lib.ListN.{get_or, take, replicate, length-take}
use borrow.Author.Tests.{eq-eqb, eqb-true, eqb-false, not-true, not-false}
use Rattle.numbers.specs.Buffer.{at_front}
use Rattle.lists.specs.Below.{below}
use Rattle.table.specs.Table.{Call}
use Rattle.table.specs.Total.{slots}
use Rattle.table.specs.Lists.{call_at, ids_of}
use Rattle.table.specs.Rules.{same_bytes}
use Rattle.table.specs.Words.{bytes_of, name_at_word, call_start, table_of}
use Rattle.table.proofs.Cells.{call_at_lem}
use Rattle.table.proofs.SameBytes.{other_sizes, same_bytes_lem}
use Rattle.table.proofs.Names.{alike, same_self}
use Rattle.table_words.specs.Names.{word_in}
use Rattle.table_words.proofs.NameBytes.{name_word_at}
use Rattle.table_words.proofs.Padded.{name_room}
use Rattle.spec_calls.specs.Made.{hex_digits, made_name}
use Rattle.spec_calls.proofs.MadeName.{name_length_lem}
use Rattle.std.proofs.Common.{Option, None}
use Rattle.make_ids.specs.Digits.{is_it, NumberOf, DigitsOf, begins_with}
use Rattle.make_ids.specs.declared.digits.PairDigits.{PairDigits}
use Rattle.make_ids.proofs.HexDigits.{word_told}

-- ---- names word by word

word_same : (x y : ℕ) → same_bytes (bytes_of x) (bytes_of y) ≡ eqb y x
word_same x y =
    alike _ _
    (λ h. eq-eqb y x (sym (word_told x y (same_bytes_lem _ _ h))))
    (λ h. rw (eqb-true y x h) (same_self (bytes_of x)))

same_word : (x y : ℕ) (l k : List ℕ) → same_bytes (bytes_of x ++ l) (bytes_of y ++ k) ≡ (eqb y x && same_bytes l k)
unfolding same_bytes
same_word x y l k =
    by (eqb (x % 256) (y % 256)) (eqb (x / 256 % 256) (y / 256 % 256)) (eqb (x / 65536 % 256) (y / 65536 % 256)) (eqb (x / 16777216) (y / 16777216)) (same_bytes l k)
    ∙ ap (λ b. b && same_bytes l k) (word_same x y)
  where
    by : (a b c d e : Bool) → (a && (b && (c && (d && e)))) ≡ ((a && (b && (c && (d && true)))) && e)
    by true true true true e = refl
    by true true true false e = refl
    by true true false d e = refl
    by true false c d e = refl
    by false b c d e = refl

-- ---- a name byte by byte

abbrev pub byte_at : List ℕ → ℕ → ℕ
byte_at w j = get_or (bytes_of (get_or w (j / 4) 0)) (j % 4) 0

pub name_each : (w : List ℕ) → below (λ j. byte_at w j ∷ []) 32 ≡ name_at_word w 0
unfolding below
name_each w = refl

-- ---- a made name

module _ (endpoint sender : ℕ) (p : PairDigits) (h : DigitsOf endpoint sender p) where
  -- the pair's four words, then the number's
  made_words : (n : ℕ)
      → made_name endpoint sender n
      ≡ bytes_of p.sender_high ++ (bytes_of p.sender_low ++ (bytes_of p.endpoint_high ++ (bytes_of p.endpoint_low ++ hex_digits 4 n)))
  unfolding made_name
  made_words n = rw (← h.of_sender, ← h.of_endpoint)

  -- its words, zeros behind it
  pub made_front : (n x : ℕ) → bytes_of x ≡ hex_digits 4 n
      → name_at_word (p.sender_high ∷ p.sender_low ∷ p.endpoint_high ∷ p.endpoint_low ∷ x ∷ 0 ∷ 0 ∷ 0 ∷ []) 0
      ≡ at_front (made_name endpoint sender n) (replicate 32 0)
  unfolding below at_front
  made_front n x e = rw (made_words n, ← e)

  module _ (w : List ℕ) (i : ℕ) (l : i < slots) where
    abbrev call : Call
    call = call_at (table_of w) i

    abbrev word : ℕ → ℕ
    word k = word_in call.name k

    abbrev at : ℕ → ℕ
    at k = get_or w (call_start i + 8 + k) 0

    word_at : (k : ℕ) → k < 8 → at k ≡ word k
    word_at k b = name_word_at w (call_start i + 8) k b ∙ ap (λ c. word_in c.name k) (sym (call_at_lem w i l))

    first_twenty : take 20 (name_at_word w (call_start i + 8)) ≡ bytes_of (at 0) ++ (bytes_of (at 1) ++ (bytes_of (at 2) ++ (bytes_of (at 3) ++ bytes_of (at 4))))
    unfolding below
    first_twenty = refl

    abbrev begins : Bool
    begins = begins_with p call.name

    by_words : (n : ℕ) → call.size ≡ 20 → same_bytes (made_name endpoint sender n) (ids_of call).long ≡ (begins && same_bytes (hex_digits 4 n) (bytes_of (word 4)))
    by_words n s =
        ap₂ same_bytes (made_words n) (ap₂ (λ (m : ℕ) (x : List ℕ). take m x) s (ap (λ c. c.name) (call_at_lem w i l)) ∙ first_twenty)
        ∙ same_word p.sender_high (at 0) _ _
        ∙ ap (λ b. eqb (at 0) p.sender_high && b) (same_word p.sender_low (at 1) _ _
        ∙ ap (λ b. eqb (at 1) p.sender_low && b) (same_word p.endpoint_high (at 2) _ _
        ∙ ap (λ b. eqb (at 2) p.endpoint_high && b) (same_word p.endpoint_low (at 3) (hex_digits 4 n) (bytes_of (at 4)))))
        ∙ rw (word_at 0 (omega arith), word_at 1 (omega arith), word_at 2 (omega arith), word_at 3 (omega arith), word_at 4 (omega arith))
        (by (eqb (word 0) p.sender_high) (eqb (word 1) p.sender_low) (eqb (word 2) p.endpoint_high) _ _)
      where
        by : (a b c d e : Bool) → (a && (b && (c && (d && e)))) ≡ (a && b && (c && d) && e)
        by true true true d e = refl
        by true true false d e = refl
        by true false c d e = refl
        by false b c d e = refl

    -- the number that the name is made of
    abbrev MadeOf : Option ℕ → Type 0
    MadeOf r = (n : ℕ) → 1 ≤ n → n < 4096 → is_it n r ≡ same_bytes (made_name endpoint sender n) (ids_of call).long

    no_number : ((n : ℕ) → same_bytes (made_name endpoint sender n) (ids_of call).long ≡ false) → MadeOf None
    no_number o n a b = sym (o n)

    -- a name of another size is made of no number
    pub another_size : not (eqb 20 call.size) ≡ true → MadeOf None
    another_size s =
        let o = eqb-false 20 call.size (not-true _ s) in
        let long = length-take call.size call.name ∙ ap (min call.size) (name_room w i l) in
        no_number (λ n. other_sizes _ _ (λ e. o (sizes call.size (sym (name_length_lem endpoint sender n) ∙ e ∙ long))))
      where
        sizes : (m : ℕ) → 20 ≡ min m 32 → 20 ≡ m
        sizes m e = omega arith

    module _ (s : not (eqb 20 call.size) ≡ false) where
      twenty : call.size ≡ 20
      twenty = sym (eqb-true 20 call.size (not-false _ s))

      -- nor is a name that begins otherwise
      pub another_start : not begins ≡ true → MadeOf None
      another_start o = no_number (λ n. by_words n twenty ∙ ap (λ b. b && same_bytes (hex_digits 4 n) (bytes_of (word 4))) (not-true begins o))

      pub number_at : (r : Option ℕ) → not begins ≡ false → NumberOf (word 4) r → MadeOf r
      number_at r o k n a b =
          k.number n a b
          ∙ sym (by_words n twenty ∙ ap (λ b. b && same_bytes (hex_digits 4 n) (bytes_of (word 4))) (not-false begins o))
