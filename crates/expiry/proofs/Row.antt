-- The caller's row: one closing more behind those listed.
-- Assumes nothing.
use Prim.Native.Nat.{ℕ, ◌+◌, ◌*◌, ◌<◌}
use native.Mathlib.Omega.{arith}
use mathlib.Core.Path.{◌≡◌, refl, sym, ap, ◌∙◌}
use mathlib.Core.List.{List, [], ◌∷◌, ◌++◌, append_assoc}
use lib.ListN.{length, set, length-append}
use Rattle.numbers.specs.Buffer.{at_front}
use Rattle.spec_changes.specs.Expiry.{Closing, closing_words}
use Rattle.expiry.specs.Row.{with_closing}

pub words_length : (l : List Closing) → length (closing_words l) ≡ 2 * length l
unfolding closing_words
words_length [] = refl
words_length (c ∷ l) = omega (arith, words_length l)

words_append : (l k : List Closing) → closing_words (l ++ k) ≡ closing_words l ++ closing_words k
unfolding closing_words
words_append [] k = refl
words_append (c ∷ l) k = ap (λ (w : List ℕ). c.slot ∷ c.address ∷ w) (words_append l k)

-- the word behind those written
front_set : (xs l : List ℕ) (v : ℕ) → length xs < length l → set (at_front xs l) (length xs) v ≡ at_front (xs ++ v ∷ []) l
unfolding at_front
front_set [] [] v h = let z : ⊥ = omega arith in absurd z
front_set [] (a ∷ l) v h = refl
front_set (x ∷ xs) [] v h = let z : ⊥ = omega arith in absurd z
front_set (x ∷ xs) (a ∷ l) v h = ap (λ (w : List ℕ). x ∷ w) (front_set xs l v (omega arith))

pub row_turn : (l : List Closing) (c : Closing) (row : List ℕ) (k : ℕ) → k ≡ length l → 2 * k + 1 < length row
    → with_closing (at_front (closing_words l) row) k c ≡ at_front (closing_words (l ++ c ∷ [])) row
unfolding closing_words
row_turn l c row k e h =
    let w = closing_words l in
    let n : length w ≡ 2 * k = words_length l ∙ omega arith in
    let m : length (w ++ c.slot ∷ []) ≡ 2 * k + 1 = length-append w (c.slot ∷ []) ∙ omega (arith, n) in
    let first : set (at_front w row) (2 * k) c.slot ≡ at_front (w ++ c.slot ∷ []) row = rw n at (front_set w row c.slot (omega (arith, n, h))) in
    let second : set (at_front (w ++ c.slot ∷ []) row) (2 * k + 1) c.address ≡ at_front ((w ++ c.slot ∷ []) ++ c.address ∷ []) row = rw m at (front_set (w ++ c.slot ∷ []) row c.address (omega (arith, m, h))) in
    ap (λ (x : List ℕ). set x (2 * k + 1) c.address) first ∙ second
    ∙ ap (λ (x : List ℕ). at_front x row) (append_assoc w (c.slot ∷ []) (c.address ∷ []) ∙ sym (words_append l (c ∷ [])))
