-- Names that differ in their padding alone have one long ID (02, A1).
-- Assumes nothing.
use Prim.Native.Nat.{ℕ, suc, ◌+◌, ◌-◌, ◌≤◌, ◌<◌}
use native.Mathlib.Omega.{arith}
use mathlib.Core.Path.{◌≡◌, refl, sym, ap, ◌∙◌}
use mathlib.Core.List.{List}
use mathlib.Core.Bool.{Bool, true, false}
use lib.Dec.{ltb}
use lib.ListN.{length, get_or, take, drop, length-drop}
use lib.Seq.{length-take-le, get_or-take, get_or-drop, ext_get_or}
use borrow.Author.Tests.{ltb-true, ltb-false}
use Rattle.numbers.specs.Claims.{CutOff}
use Rattle.numbers.proofs.Padding.{unpadded_says, unpadded_only}
use Rattle.objects.specs.Forms.{name_length}
use Rattle.messages.specs.Fields.{long_size}
use Rattle.messages.specs.Claims.{PaddedAlike, SameLongPadded}

module _ (s : List ℕ) (a : ℕ) (r : List ℕ) (b : ℕ) (p : PaddedAlike s a r b) where
  cut : CutOff s (a + 8) (name_length s a) (long_size s a)
  cut = unpadded_says s (a + 8) (name_length s a)

  -- what stays ends within what both have
  within : long_size s a ≤ p.common
  within = by (ltb p.common (long_size s a)) refl
    where
      by : (c : Bool) → ltb p.common (long_size s a) ≡ c → long_size s a ≤ p.common
      by true e =
          let k = long_size s a - 1 in
          let l = ltb-true p.common (long_size s a) e in
          let n : long_size s a ≡ suc k = omega (arith, l) in
          absurd (cut.last k n (p.first_zeros k (omega (arith, l, n)) (omega (arith, n, cut.most))))
      by false e = ltb-false _ _ e

  -- so it is what stays of the other
  other : CutOff r (b + 8) (name_length r b) (long_size s a)
  other = record {
    most = omega (arith, within, p.second);
    zeros = λ i l m. by i l m (ltb i p.common) refl;
    last = λ k e z. cut.last k e (p.same k (omega (arith, within, e)) ∙ z);
  }
    where
      by : (i : ℕ) → long_size s a ≤ i → i < name_length r b → (c : Bool) → ltb i p.common ≡ c → get_or r (b + 8 + i) 0 ≡ 0
      by i l m true e = let h = ltb-true i p.common e in sym (p.same i h) ∙ cut.zeros i l (omega (arith, h, p.first))
      by i l m false e = p.second_zeros i (ltb-false i p.common e) m

  as_long : long_size s a ≡ long_size r b
  as_long = unpadded_only r (b + 8) (name_length r b) (long_size s a) other

  byte_same : (i : ℕ) → i < long_size s a → get_or s (a + 8 + i) 0 ≡ get_or r (b + 8 + i) 0
  byte_same i h = p.same i (omega (arith, within))

-- so many bytes of a list from a place
part_long : (s : List ℕ) (at n : ℕ) → at + n ≤ length s → length (take n (drop at s)) ≡ n
part_long s at n h = length-take-le _ _ (simp length-drop (omega arith))

part_byte : (s : List ℕ) (at n i : ℕ) → i < n → get_or (take n (drop at s)) i 0 ≡ get_or s (at + i) 0
part_byte s at n i h = get_or-take n (drop at s) i 0 h ∙ get_or-drop at s i 0

pub same_long_padded : SameLongPadded
same_long_padded s a r b h k p =
    let m = long_size s a in
    let e = as_long s a r b p in
    let x = part_long s (a + 8) m (omega (arith, h, (unpadded_says s (a + 8) (name_length s a)).most)) in
    let y = part_long r (b + 8) m (omega (arith, k, (other s a r b p).most)) in
    ext_get_or 0 (take m (drop (a + 8) s)) (take m (drop (b + 8) r)) (x ∙ sym y)
    (λ i l. part_byte s (a + 8) m i (omega (arith, l, x)) ∙ byte_same s a r b p i (omega (arith, l, x)) ∙ sym (part_byte r (b + 8) m i (omega (arith, l, x))))
    ∙ ap (λ n. take n (drop (b + 8) r)) e
