-- Names compared word by word, and words told by their bytes.
-- Assumes nothing.
use Rattle.std.proofs.Common.{◌≡◌, ℕ, zero, suc, ◌+◌, ◌/◌, ◌%◌, ◌<◌, Bool, true, false, eqb, List, [], ◌∷◌, length, get_or, take, drop, sym, refl, ap, ◌∙◌, ⊎_elim, le_of_suc-le-suc, not-suc-le-zero, eq-or-lt_of_le, arith, length-append, take_at, drop_at, eq-eqb, eqb-true}
use lib.Seq.{take-append_seam, drop-append_seam}
use Rattle.lists.specs.Below.{below, every_below}
use Rattle.lists.proofs.Below.{every_within, every_at}
use Rattle.table.specs.Rules.{same_bytes}
use Rattle.table.specs.Words.{bytes_of, name_at_word}
use Rattle.table.proofs.SameBytes.{same_bytes_lem}
use Rattle.table.proofs.Cells.{name_same}

-- two tests that pass alike
pub alike : (p q : Bool) → (p ≡ true → q ≡ true) → (q ≡ true → p ≡ true) → p ≡ q
alike true q f g = sym (f refl)
alike false true f g = g refl
alike false false f g = refl

pub same_self : (l : List ℕ) → same_bytes l l ≡ true
unfolding same_bytes
same_self [] = refl
same_self (x ∷ l) = rw (eq-eqb x x refl, same_self l)

-- ---- rows of cells of one size

module _ {A : Type 0} (f g : ℕ → List A) (m : ℕ) (p : (i : ℕ) → length (f i) ≡ m) (q : (i : ℕ) → length (g i) ≡ m) where
  rows : (n : ℕ) → length (below f n) ≡ length (below g n)
  unfolding below
  rows zero = refl
  rows (suc n) = omega (arith, length-append (below f n) (f n), length-append (below g n) (g n), rows n, p n, q n)

  -- rows that are the same have the same cells
  pub cells_told : (n : ℕ) → below f n ≡ below g n → (k : ℕ) → k < n → f k ≡ g k
  unfolding below
  cells_told zero e k h = absurd (not-suc-le-zero h)
  cells_told (suc n) e k h =
      let a = below f n in
      let b = below g n in
      let first : a ≡ b = sym (take-append_seam a (f n)) ∙ ap (λ (l : List A). take (length a) l) e ∙ take_at b (g n) (length a) (sym (rows n)) in
      let last : f n ≡ g n = sym (drop-append_seam a (f n)) ∙ ap (λ (l : List A). drop (length a) l) e ∙ drop_at b (g n) (length a) (sym (rows n)) in
      ⊎_elim (λ (s : k ≡ n). rw s last) (λ (l : k < n). cells_told n first k l) (eq-or-lt_of_le (le_of_suc-le-suc h))

-- a number by its low byte and the rest
high : (x y : ℕ) → x % 256 ≡ y % 256 → x / 256 ≡ y / 256 → x ≡ y
high x y p q = omega arith

bytes_told : (x y : ℕ) → bytes_of x ≡ bytes_of y → x ≡ y
bytes_told x y e =
    let twice : (z : ℕ) → z / 256 / 256 ≡ z / 65536 = λ z. omega arith in
    let thrice : (z : ℕ) → z / 65536 / 256 ≡ z / 16777216 = λ z. omega arith in
    high x y (ap (λ l. get_or l 0 0) e)
    (high (x / 256) (y / 256) (ap (λ l. get_or l 1 0) e)
    (rw (twice x, twice y)
    (high (x / 65536) (y / 65536) (ap (λ l. get_or l 2 0) e)
    (rw (thrice x, thrice y) (ap (λ l. get_or l 3 0) e)))))

module _ (w v : List ℕ) (b e : ℕ) where
  -- names that are the same have the same words
  pub name_told : name_at_word w b ≡ name_at_word v e → (k : ℕ) → k < 8 → get_or w (b + k) 0 ≡ get_or v (e + k) 0
  name_told h k l =
      bytes_told _ _ (cells_told (λ k. bytes_of (get_or w (b + k) 0)) (λ k. bytes_of (get_or v (e + k) 0)) 4 (λ i. refl) (λ i. refl) 8 h k l)

  pub names_by_words : every_below (λ k. eqb (get_or w (b + k) 0) (get_or v (e + k) 0)) 8 ≡ same_bytes (name_at_word w b) (name_at_word v e)
  names_by_words =
      alike _ _
      (λ h. rw (name_same w v b e (λ k l. eqb-true _ _ (every_at (λ k. eqb (get_or w (b + k) 0) (get_or v (e + k) 0)) 8 h k l))) (same_self (name_at_word v e)))
      (λ h. every_within _ 8 (λ k l. eq-eqb _ _ (name_told (same_bytes_lem (name_at_word w b) (name_at_word v e) h) k l)))
