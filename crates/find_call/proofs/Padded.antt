-- Names as the table holds them, in 32 bytes with zeros behind them, compared whole.
-- Assumes nothing.
use Rattle.std.proofs.Common.{◌≡◌, ℕ, zero, suc, ◌+◌, ◌-◌, ◌≤◌, true, ◌&&◌, eqb, List, ◌++◌, length, take, drop, replicate, sym, ap, ◌∙◌, suc-add, zero-add, arith, length-take-le, take_at, eq-eqb, eqb-true}
use Rattle.numbers.specs.Search.{zeros_at}
use Rattle.numbers.specs.Buffer.{at_front}
use Rattle.lists.proofs.Tests.{both}
use Rattle.table.specs.Rules.{same_bytes}
use Rattle.table.proofs.SameBytes.{same_bytes_lem}
use Rattle.table.proofs.Names.{alike, same_self}
use Rattle.table_words.proofs.Padded.{padded, name_padded}

drop_zeros : (n k : ℕ) → drop n (replicate {A = ℕ} (n + k) 0) ≡ replicate k 0
drop_zeros zero k = rw zero-add
drop_zeros (suc n) k = rw suc-add (drop_zeros n k)

at_front_lem : (x : List ℕ) → length x ≤ 32 → at_front x (replicate 32 0) ≡ padded x
unfolding at_front
at_front_lem x h =
    let t : 32 ≡ length x + (32 - length x) = omega arith in
    ap (λ (z : List ℕ). x ++ z) (ap (λ (k : ℕ). drop (length x) (replicate {A = ℕ} k 0)) t ∙ drop_zeros (length x) (32 - length x))

-- a request's name against one of the table: sizes and all 32 bytes
pub names_whole : (x y : List ℕ) (m : ℕ) → length x ≤ 32 → length y ≡ 32 → m ≤ 32 → zeros_at y m (32 - m) ≡ true
    → (eqb (length x) m && same_bytes (at_front x (replicate 32 0)) y) ≡ same_bytes x (take m y)
names_whole x y m f l g z = alike _ _ part whole
  where
    whole : same_bytes x (take m y) ≡ true → (eqb (length x) m && same_bytes (at_front x (replicate 32 0)) y) ≡ true
    whole h =
        let e = same_bytes_lem x (take m y) h in
        let s : length x ≡ m = ap length e ∙ length-take-le m y (omega arith) in
        let q : at_front x (replicate 32 0) ≡ y = at_front_lem x f ∙ ap padded e ∙ sym (name_padded y m l z) in
        rw (eq-eqb (length x) m s, q) (same_self y)

    part : (eqb (length x) m && same_bytes (at_front x (replicate 32 0)) y) ≡ true → same_bytes x (take m y) ≡ true
    part h =
        let k = both (eqb (length x) m) (same_bytes (at_front x (replicate 32 0)) y) h in
        let s = eqb-true (length x) m k.0 in
        let e : padded x ≡ y = sym (at_front_lem x f) ∙ same_bytes_lem (at_front x (replicate 32 0)) y k.1 in
        let q : x ≡ take m y = sym (take_at x (replicate (32 - length x) 0) m s) ∙ ap (take m) e in
        rw (← q) (same_self x)
