-- How a checkpoint grows at the front of a buffer: one part behind the other.
-- Assumes nothing.
use Prim.Native.Nat.{ℕ, zero, suc, ◌+◌, ◌≤◌, ◌<◌}
use native.Mathlib.Nat.{eq-or-lt_of_le, le_of_suc-le-suc, not-suc-le-zero}
use native.Mathlib.Omega.{arith}
use mathlib.Core.Logic.{⊎_elim}
use mathlib.Core.Path.{◌≡◌, refl}
use mathlib.Core.List.{List, []}
use lib.ListN.{length, length-append}
use Rattle.numbers.specs.Buffer.{at_front}
use Rattle.numbers.proofs.Buffer.{back_at, part_at, front_length}
use Rattle.replies.proofs.Written.{tail_length}
use Rattle.lists.specs.Below.{below}
use Rattle.lists.proofs.Below.{below_none, below_more}
use Rattle.checkpoint_records.specs.Put.{Put}
use Rattle.checkpoint_records.proofs.Behind.{more}

-- nothing is written yet
pub front_none : (l : List ℕ) → l ≡ at_front [] l
unfolding at_front
front_none l = refl

module _ (f : ℕ → List ℕ) where
  length_more : (n : ℕ) → length (below f (suc n)) ≡ length (below f n) + length (f n)
  unfolding below
  length_more n = length-append (below f n) (f n)

  -- what one place has fits behind what those before it have
  pub place_fits : (i n : ℕ) → i < n → length (below f i) + length (f i) ≤ length (below f n)
  place_fits i zero h = absurd (not-suc-le-zero h)
  place_fits i (suc n) h =
      ⊎_elim
      (λ (e : i ≡ n). rw e (omega (arith, length_more n)))
      (λ (b : i < n). omega (arith, length_more n, place_fits i n b))
      (eq-or-lt_of_le (le_of_suc-le-suc h))

  -- ---- a loop that writes one place after another

  -- how far it came before turn i: a bytes of the buffer l are written
  pub record Reached (l : List ℕ) (i a : ℕ) (xs : List ℕ) : Type 0 where
    pub put : Put (below f i) a l xs
    pub same : length xs ≡ length l
    pub within : a ≤ length l

  pub none : (l : List ℕ) → Reached l 0 0 l
  none l = record { put = rw (below_none f) (record { count = refl; is = front_none l }); same = refl; within = omega arith }

  module _ {xs : List ℕ} {a : ℕ} (l : List ℕ) (i n : ℕ) (h : i < n) (k : length (below f n) ≤ length l) (w : Reached l i a xs) where
    pub room : length (f i) ≤ length (part_at xs a)
    room = rw (tail_length xs a) (omega (arith, place_fits i n h, w.put.count))

    pub within_turn : (r : ℕ) → r ≡ length (f i) → a + r ≤ length l
    within_turn r e = omega (arith, place_fits i n h, w.put.count)

    pub turn : {ys : List ℕ} {r : ℕ} → Put (f i) r (part_at xs a) ys → Reached l (i + 1) (a + r) (back_at xs a ys)
    turn {ys} {r} v =
        let p : Put (below f (i + 1)) (a + r) l (back_at xs a ys) = rw (below_more f i) (more (f i) w.put (omega (arith, place_fits i n h)) v) in
        let fits : length (below f (i + 1)) ≤ length l = omega (arith, p.count, within_turn r v.count) in
        record { put = p; same = rw p.is (front_length (below f (i + 1)) l fits); within = within_turn r v.count }
