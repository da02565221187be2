-- How an object or a message grows at the front of a buffer: one writer after another in the tail.
-- Assumes nothing.
use Prim.Native.Nat.{ℕ, ◌+◌, ◌-◌, ◌≤◌}
use native.Mathlib.Omega.{arith}
use mathlib.Core.Path.{◌≡◌, sym, ◌∙◌}
use mathlib.Core.List.{List, ◌++◌}
use lib.ListN.{length, length-append, length-take, length-drop}
use Rattle.numbers.specs.Buffer.{at_front}
use Rattle.numbers.proofs.Buffer.{back_at, part_at, next}

-- what the next writer is lent
pub tail_length : (xs : List ℕ) (a : ℕ) → length (part_at xs a) ≡ length xs - a
tail_length xs a = simp (length-take, length-drop) (omega arith)

-- xs is the buffer l with the n bytes bs at its front, and the code counts a bytes so far
pub record Written (xs bs l : List ℕ) (a n : ℕ) : Type 0 where
  pub is : xs ≡ at_front bs l
  pub size : length bs ≡ n
  pub counted : a ≡ n

-- the first writer, of the n bytes bs
pub begun : {xs l : List ℕ} {r n : ℕ} (bs : List ℕ) → length bs ≡ n → (r ≡ n) × (xs ≡ at_front bs l) → Written xs bs l r n
begun bs e (q, p) = record { is = p; size = e; counted = q }

-- one more writer, of the k bytes cs, in the tail from a
pub more : {xs ys bs l : List ℕ} {a r n k : ℕ} (cs : List ℕ) → Written xs bs l a n → length cs ≡ k → n + k ≤ length l
    → (r ≡ k) × (ys ≡ at_front cs (part_at xs a)) → Written (back_at xs a ys) (bs ++ cs) l (a + r) (n + k)
more {xs} {ys} {bs} {l} {a} cs w e h (q, p) = record {
  is = next xs ys bs cs l a w.is (w.size ∙ sym w.counted) (rw (w.counted, e) h) p;
  size = simp length-append (omega arith);
  counted = omega arith;
}
