-- What stores, and writers in the tail of a slice, leave of a buffer, said by `at_front`.
-- Assumes nothing.
use Rattle.std.proofs.Common.{◌≡◌, ℕ, suc, ◌+◌, ◌-◌, ◌<◌, ◌≤◌, List, [], ◌∷◌, ◌++◌, length, take, drop, set, sym, refl, ap, ◌∙◌, append_assoc, append-nil, zero-add, arith, length-append, length-drop, length-set, drop-drop, take_at, drop_at}
use lib.Seq.{sets, set-append_left, sets-eq, take-length, drop-length, drop-append_seam}
use Rattle.numbers.specs.Buffer.{at_front}

-- stores one behind the other from the front
pub stored : (vs l : List ℕ) → length vs ≤ length l → sets l 0 vs ≡ at_front vs l
unfolding at_front
stored vs l h = sets-eq vs l 0 (rw zero-add h) ∙ rw zero-add

pub front_length : (bs l : List ℕ) → length bs ≤ length l → length (at_front bs l) ≡ length l
unfolding at_front
front_length bs l h = simp (length-append, length-drop) (omega arith)

-- the front is what was written
pub front_taken : (bs l : List ℕ) (n : ℕ) → length bs ≡ n → take n (at_front bs l) ≡ bs
unfolding at_front
front_taken bs l n e = take_at bs (drop (length bs) l) n e

-- what lies behind it is what lay there
pub front_dropped : (bs l : List ℕ) → drop (length bs) (at_front bs l) ≡ drop (length bs) l
unfolding at_front
front_dropped bs l = drop-append_seam bs (drop (length bs) l)

pub nothing_written : (l : List ℕ) → at_front [] l ≡ l
unfolding at_front
nothing_written l = refl

-- what a slice holds that lent its part from a and has it back at ys
abbrev pub back_at : List ℕ → ℕ → List ℕ → List ℕ
back_at xs a ys = take a xs ++ (ys ++ drop (length xs - a) (drop a xs))

-- the part from a
abbrev pub part_at : List ℕ → ℕ → List ℕ
part_at xs a = take (length xs - a) (drop a xs)

module _ (bs cs l : List ℕ) (a : ℕ) (e : length bs ≡ a) (h : a + length cs ≤ length l) where
  tail_is : drop a (at_front bs l) ≡ drop a l
  unfolding at_front
  tail_is = drop_at bs (drop (length bs) l) a e ∙ ap (λ (n : ℕ). drop n l) e

  left_is : length (at_front bs l) - a ≡ length (drop a l)
  left_is = rw (front_length bs l (omega arith), length-drop)

  part_is : part_at (at_front bs l) a ≡ drop a l
  part_is = rw (tail_is, left_is) (take-length (drop a l))

  rest_is : drop (length (at_front bs l) - a) (drop a (at_front bs l)) ≡ []
  rest_is = rw (tail_is, left_is) (drop-length (drop a l))

  together : bs ++ (at_front cs (drop a l) ++ []) ≡ at_front (bs ++ cs) l
  unfolding at_front
  together =
      ap (λ (r : List ℕ). bs ++ r) (append-nil (cs ++ drop (length cs) (drop a l)))
      ∙ sym (append_assoc bs cs (drop (length cs) (drop a l)))
      ∙ ap (λ (r : List ℕ). bs ++ cs ++ r) (drop-drop (length cs) a l ∙ ap (λ (n : ℕ). drop (n + length cs) l) (sym e) ∙ ap (λ (n : ℕ). drop n l) (sym (length-append bs cs)))

  behind : back_at (at_front bs l) a (at_front cs (part_at (at_front bs l) a)) ≡ at_front (bs ++ cs) l
  behind = rw (front_taken bs l a e, part_is, rest_is) together

-- a writer in the tail: xs has bs at its front, and ys, its part from a, came back with cs at the front
pub next : (xs ys bs cs l : List ℕ) (a : ℕ) → xs ≡ at_front bs l → length bs ≡ a → a + length cs ≤ length l → ys ≡ at_front cs (part_at xs a)
    → back_at xs a ys ≡ at_front (bs ++ cs) l
next xs ys bs cs l a p e h q = rw (q, p) (behind bs cs l a e h)

-- stores within what was written
pub sets_front : (bs l vs : List ℕ) (i : ℕ) → i + length vs ≤ length bs → sets (at_front bs l) i vs ≡ at_front (sets bs i vs) l
unfolding at_front
sets_front bs l [] i h = refl
sets_front bs l (v ∷ vs) i h =
    let k : i < length bs = omega arith in
    let g : suc i + length vs ≤ length (set bs i v) = simp length-set (omega arith) in
    rw (set-append_left bs (drop (length bs) l) i v k) (ap (λ (n : ℕ). sets (set bs i v ++ drop n l) (suc i) vs) (sym (length-set bs i v)) ∙ sets_front (set bs i v) l vs (suc i) g)
