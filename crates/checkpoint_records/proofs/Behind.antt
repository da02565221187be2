-- A writer behind another one, and the parts of a call's record one behind the other.
-- Assumes nothing.
use Prim.Native.Nat.{ℕ, ◌+◌, ◌-◌, ◌≤◌, ◌<◌, min}
use native.Mathlib.Nat.{zero-add}
use native.Mathlib.Numerals.{add-one}
use native.Mathlib.Omega.{arith}
use mathlib.Core.Path.{◌≡◌, sym, ◌∙◌}
use mathlib.Core.List.{List, ◌++◌, append_assoc, append-nil}
use lib.ListN.{length, take, drop, get_or, set, replicate, length-append, length-drop}
use lib.Seq.{paste, paste-suc, take_all, take-take, length-take-le}
use Rattle.std.proofs.lemmas.List.{take_min}
use Rattle.numbers.specs.Buffer.{at_front}
use Rattle.numbers.proofs.Buffer.{back_at, part_at, next}
use Rattle.table.specs.Total.{slots}
use Rattle.table.specs.Lists.{call_at}
use Rattle.table.specs.Words.{call_start, table_of}
use Rattle.table.proofs.Cells.{call_at_lem}
use Rattle.table_words.proofs.NameBytes as words
use Rattle.checkpoint_records.specs.Put.{Put}

-- one more writer, of the bytes cs, in the tail from a
pub more : {xs ys bs l : List ℕ} {a r : ℕ} (cs : List ℕ) → Put bs a l xs → length bs + length cs ≤ length l → Put cs r (part_at xs a) ys
    → Put (bs ++ cs) (a + r) l (back_at xs a ys)
more {xs} {ys} {bs} {l} {a} cs w h v = record {
  count = simp length-append (omega arith);
  is = next xs ys bs cs l a w.is (sym w.count) (rw w.count h) v.is;
}

-- ---- names

-- one byte more of a name at the front
pub copied_turn : (x l out : List ℕ) (k : ℕ) → k < length x → k < length l → out ≡ paste l 0 x k → set out k (get_or x k 0) ≡ paste l 0 x (k + 1)
copied_turn x l out k h b e =
    let q : 0 + k < length l = simp zero-add b in
    rw (add-one, e) (simp zero-add (simp zero-add at (paste-suc l 0 x k 0 q h)))

pub name_put : (x l out : List ℕ) → length x ≡ 32 → out ≡ paste l 0 x 32 → Put x 32 l out
unfolding at_front
name_put x l out h e = record { count = sym h; is = e ∙ rw (zero-add, take_all 32 x (omega arith), h) }

-- a name of 32 bytes leaves no zeros behind it
pub name_whole : (s : List ℕ) (at : ℕ) → at + 32 ≤ length s → at_front (take 32 (drop at s)) (replicate 32 0) ≡ take 32 (drop at s)
unfolding at_front
name_whole s at h = rw (length-take-le 32 (drop at s) (simp length-drop (omega arith)), append-nil)

-- the bytes of a name that count, of which there are at most 32
pub name_taken : (s : List ℕ) (at size e : ℕ) → at + 32 ≤ length s → e ≡ at + min size 32 → take (e - at) (drop at s) ≡ take size (take 32 (drop at s))
name_taken s at size e h q =
    let n : e - at ≡ min size 32 = omega arith in
    rw n
    (sym (take-take (min size 32) 32 (drop at s) (omega arith))
    ∙ (rw (length-take-le 32 (drop at s) (simp length-drop (omega arith))) at (take_min size (take 32 (drop at s)))))

-- a slot has a name of 32 bytes
pub name_long : (w : List ℕ) (i : ℕ) → i < slots → length (call_at (table_of w) i).name ≡ 32
name_long w i h = rw (call_at_lem w i h) (words.name_long w (call_start i + 8))

pub regrouped : {x y : List ℕ} {r : ℕ} (s a b c : List ℕ) → Put (s ++ (a ++ b ++ c)) r x y → Put (s ++ a ++ b ++ c) r x y
regrouped s a b c w = rw (append_assoc (s ++ a) b c, append_assoc s a (b ++ c), ← append_assoc a b c) w
