-- Words put in the midst of others.
-- Assumes nothing.
use Prim.Native.Nat.{ℕ, ◌+◌, ◌-◌, ◌≤◌, ◌<◌}
use native.Mathlib.Omega.{arith}
use mathlib.Core.Path.{◌≡◌, refl, ap, ◌∙◌}
use mathlib.Core.Bool.{Bool, true, false}
use lib.Dec.{ltb}
use mathlib.Core.List.{List, ◌++◌}
use lib.ListN.{length, get_or, take, drop, get_or-append}
use lib.Seq.{get_or-append-add, get_or-take, get_or-drop, length-take-le}
use borrow.Author.Tests.{ltb-true, ltb-false}
use borrow.Rule.Slice.PartMut.{put_mid}
use Rattle.table.specs.Total.{slots}
use Rattle.table.specs.Stores.{with_slot}
use Rattle.table.specs.Words.{call_at_word, call_start, occupied_of, table_of, word_count}
use Rattle.table.proofs.Cells.{call_same}
use Rattle.table_words.proofs.Stored.{Elsewhere, slot_changed}

-- x in the place of k words of w, from a on
module _ (w x : List ℕ) (a k : ℕ) (fits : a + k ≤ length w) (long : length x ≡ k) where
  past : (j : ℕ) → a ≤ j → get_or (put_mid a k w x) j 0 ≡ get_or (x ++ drop k (drop a w)) (j - a) 0
  past j l =
      let e : j ≡ length (take a w) + (j - a) = omega (arith, length-take-le a w (omega arith)) in
      ap (λ (n : ℕ). get_or (put_mid a k w x) n 0) e ∙ get_or-append-add (take a w) (x ++ drop k (drop a w)) (j - a) 0

  here : (j : ℕ) → j < k → get_or (put_mid a k w x) (a + j) 0 ≡ get_or x j 0
  here j l =
      let e : a + j - a ≡ j = omega arith in
      past (a + j) (omega arith) ∙ ap (λ (n : ℕ). get_or (x ++ drop k (drop a w)) n 0) e ∙ get_or-append x (drop k (drop a w)) 0 j (omega arith)

  other : Elsewhere w (put_mid a k w x) a k
  other j n = by (ltb j a) refl
    where
      by : (b : Bool) → ltb j a ≡ b → get_or (put_mid a k w x) j 0 ≡ get_or w j 0
      by true h =
          let l = ltb-true j a h in
          get_or-append (take a w) (x ++ drop k (drop a w)) 0 j (omega (arith, length-take-le a w (omega arith))) ∙ get_or-take a w j 0 l
      by false h =
          let l = ltb-false j a h in
          let m : a + k ≤ j = omega arith in
          let e : j - a ≡ length x + (j - (a + k)) = omega arith in
          let f : a + (k + (j - (a + k))) ≡ j = omega arith in
          past j l
          ∙ ap (λ (n : ℕ). get_or (x ++ drop k (drop a w)) n 0) e
          ∙ get_or-append-add x (drop k (drop a w)) (j - (a + k)) 0
          ∙ get_or-drop k (drop a w) (j - (a + k)) 0
          ∙ get_or-drop a w (k + (j - (a + k))) 0
          ∙ ap (λ (n : ℕ). get_or w n 0) f

-- a slot's words stored
pub slot_stored : (w x : List ℕ) (i k : ℕ) → length w ≡ word_count → i < slots → k ≡ 32 → length x ≡ 32
    → table_of (put_mid (call_start i) k w x) ≡ with_slot (table_of w) (occupied_of w) i (call_at_word x 0)
slot_stored w x i k lw l e lx =
    let v = put_mid (call_start i) 32 w x in
    rw e
    (slot_changed w v i l (other w x (call_start i) 32 (omega arith) lx)
    ∙ ap (λ d. with_slot (table_of w) (occupied_of w) i d) (call_same v x (call_start i) 0 (λ k m. here w x (call_start i) 32 (omega arith) lx k m ∙ ap (λ (n : ℕ). get_or x n 0) (omega arith))))
