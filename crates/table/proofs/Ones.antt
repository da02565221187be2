-- The count of ones of the occupancy's words is the number of open calls, where no slot outside the table is marked as used.
-- Assumes nothing.
use Rattle.std.proofs.Common.{◌≡◌, ℕ, zero, suc, ◌+◌, ◌*◌, ◌/◌, ◌%◌, ◌^◌, ◌<◌, ◌≤◌, true, eqb, List, [], ◌∷◌, length, get_or, ap, ◌∙◌, subst, le_of_suc-le-suc, not-suc-le-zero, add-zero, add-suc, mod-lt, mod-eq_of_lt, add_comm, add-one, arith, pow_pos}
use native.Mathlib.Nat.{mod-one}
use mathlib.Core.Bool.{and-true}
use lib.Pow.{mod-pow-add}
use lib.Count.{ones, ones-ones, ones_cat}
use Rattle.lists.specs.Count.{bit, count_if}
use Rattle.lists.specs.Below.{below}
use Rattle.lists.proofs.Count.{count_all}
use Rattle.lists.proofs.Below.{count_none, count_below_lem, count_element, below_rest}
use Rattle.table.specs.Total.{slots}
use Rattle.table.specs.Word.{bits, is_used, ones_of, FourWords}
use Rattle.table.specs.Lists.{Entry, open_at, entries, entry_of, call_at}
use Rattle.table.specs.Table.{Table}
use Rattle.table.proofs.Slots.{slot_bit}

digit : (d : ℕ) → d < 2 → ones d ≡ bit (eqb d 1)
digit zero h = ones-ones 0
digit (suc zero) h = ones-ones 1
digit (suc (suc d)) h = absurd (not-suc-le-zero (le_of_suc-le-suc (le_of_suc-le-suc h)))

mod_high : (n w : ℕ) → w % 2 ^ suc n ≡ w / 2 ^ n % 2 * 2 ^ n + w % 2 ^ n
mod_high n w = subst (λ (k : ℕ). w % 2 ^ k ≡ w / 2 ^ n % 2 * 2 ^ n + w % 2 ^ n) (add_comm 1 n ∙ add-one n) (mod-pow-add w 1 n)

module _ (t : Table) where
  abbrev calls : ℕ → ℕ
  calls n = count_if (λ x. true) (below (open_at t) n)

  one_slot : (i : ℕ) → count_if (λ x. true) (open_at t i) ≡ bit (is_used t.occupied i)
  one_slot i =
      count_element {A = Entry} (λ x. true) (is_used t.occupied i) (entry_of i (call_at t i)) ∙ ap bit (and-true (is_used t.occupied i))

  -- the first n slots of word k
  low_ones : (k n : ℕ) → n ≤ 64 → calls (64 * k + n) ≡ calls (64 * k) + ones (get_or t.occupied k 0 % 2 ^ n)
  low_ones k zero l = rw (add-zero (64 * k), mod-one) (omega (arith, ones-ones 0))
  low_ones k (suc n) l =
      let w = get_or t.occupied k 0 in
      let two : 0 < 2 = omega arith in
      rw (add-suc (64 * k) n)
      (omega (
        arith,
        ap ones (mod_high n w) ∙ ones_cat n (w / 2 ^ n % 2) (w % 2 ^ n) (mod-lt w (pow_pos n)),
        digit (w / 2 ^ n % 2) (mod-lt (w / 2 ^ n) two),
        low_ones k n (omega arith),
        count_below_lem (open_at t) (λ x. true) (64 * k + n),
        one_slot (64 * k + n) ∙ ap bit (slot_bit t.occupied k n (omega arith)),
      ))

  word_ones : (k : ℕ) → get_or t.occupied k 0 < 2 ^ 64 → calls (64 * k + 64) ≡ calls (64 * k) + ones (get_or t.occupied k 0)
  word_ones k f = low_ones k 64 (omega arith) ∙ ap (λ (w : ℕ). calls (64 * k) + ones w) (mod-eq_of_lt f)

-- four words, one by one
pub four_words : (w : List ℕ) → length w ≡ 4 → ones_of w ≡ ones (get_or w 0 0) + ones (get_or w 1 0) + ones (get_or w 2 0) + ones (get_or w 3 0)
four_words [] e = let z : ⊥ = omega arith in absurd z
four_words (a ∷ []) e = let z : ⊥ = omega arith in absurd z
four_words (a ∷ b ∷ []) e = let z : ⊥ = omega arith in absurd z
four_words (a ∷ b ∷ c ∷ []) e = let z : ⊥ = omega arith in absurd z
four_words (a ∷ b ∷ c ∷ d ∷ []) e = omega arith
four_words (a ∷ b ∷ c ∷ d ∷ x ∷ l) e = let z : ⊥ = omega arith in absurd z

pub ones_calls : (t : Table) → FourWords t.occupied → ((i : ℕ) → slots ≤ i → i < bits → open_at t i ≡ []) → ones_of t.occupied ≡ length (entries t)
ones_calls t f none =
    omega (
      arith,
      four_words t.occupied f.four,
      count_none (open_at t) (λ x. true),
      word_ones t 0 (f.word 0),
      word_ones t 1 (f.word 1),
      word_ones t 2 (f.word 2),
      word_ones t 3 (f.word 3),
      ap (count_if (λ x. true)) (below_rest (open_at t) slots bits (omega arith) none),
      count_all (entries t),
    )
