-- Of the records of one call, the one that most connections name is kept, the first where as many name two, and it
-- alone.
-- Assumes nothing.
use Prim.Native.Nat.{ℕ, zero, suc, ◌≤◌, ◌<◌}
use native.Mathlib.Nat.{eq-or-lt_of_le, le_of_suc-le-suc, not-suc-le-zero}
use native.Mathlib.Omega.{arith}
use mathlib.Core.Path.{◌≡◌, refl, sym, ◌∙◌}
use mathlib.Core.Logic.{◌⊎◌, inl, inr, ⊎_elim}
use mathlib.Core.List.{List}
use mathlib.Core.Bool.{Bool, true, false, not, ◌&&◌, ◌||◌}
use lib.Dec.{ltb, eqb}
use borrow.Author.Tests.{eqb-true, eqb-false, ltb-true, ltb-false, le-ltb, not-true}
use Rattle.lists.proofs.Tests.{both}
use Rattle.lists.proofs.Below.{every_at, every_within}
use Rattle.table.specs.Table.{Table}
use Rattle.table.specs.Total.{total_of}
use Rattle.table.specs.Lists.{ids_of}
use Rattle.spec_changes.proofs.Alike.{long_self, long_alike}
use Rattle.spec_checkpoint.specs.Layout.{calls_in, call_record}
use Rattle.spec_checkpoint.specs.Salvage.{sound_alone, named_by, goes_before, same_call, kept_by_long_id}
use Rattle.spec_checkpoint.specs.Claims.{MostNamed, OneKept}

-- ---- the order of two records: the one, at i, has a connections that name it, the other, at j, has b

abbrev before : ℕ → ℕ → ℕ → ℕ → Bool
before a b i j = ltb a b || eqb a b && ltb j i

not_true_false : true ≡ false → ⊥
not_true_false e = let z : ◌≡◌ {A = ℕ} 0 1 = cc in omega arith

-- the other does not go before the one
abbrev Behind : ℕ → ℕ → ℕ → ℕ → Type 0
Behind a b i j = (b ≤ a) × (b ≡ a → i ≤ j)

not_before : (a b i j : ℕ) → before a b i j ≡ false → Behind a b i j
not_before a b i j = by (ltb a b) refl (eqb a b) refl (ltb j i) refl
  where
    by : (x : Bool) → ltb a b ≡ x → (y : Bool) → eqb a b ≡ y → (z : Bool) → ltb j i ≡ z → (x || y && z) ≡ false → Behind a b i j
    by true p y q z w h = absurd (not_true_false h)
    by false p true q true w h = absurd (not_true_false h)
    by false p true q false w h = (ltb-false a b p, λ e. ltb-false j i w)
    by false p false q z w h = (ltb-false a b p, λ e. absurd (eqb-false a b q (sym e)))

before_not : (a b i j : ℕ) → Behind a b i j → before a b i j ≡ false
before_not a b i j h = rw (le-ltb a b h.0) (by (eqb a b) refl)
  where
    by : (x : Bool) → eqb a b ≡ x → (x && ltb j i) ≡ false
    by true e = le-ltb j i (h.1 (sym (eqb-true a b e)))
    by false e = refl

is_before : (a b i j : ℕ) → before a b i j ≡ true → (a < b) ⊎ ((a ≡ b) × (j < i))
is_before a b i j = by (ltb a b) refl (eqb a b) refl (ltb j i) refl
  where
    by : (x : Bool) → ltb a b ≡ x → (y : Bool) → eqb a b ≡ y → (z : Bool) → ltb j i ≡ z → (x || y && z) ≡ true → (a < b) ⊎ ((a ≡ b) × (j < i))
    by true p y q z w h = inl (ltb-true a b p)
    by false p true q true w h = inr (eqb-true a b q, ltb-true j i w)
    by false p true q false w h = absurd (not_true_false (sym h))
    by false p false q z w h = absurd (not_true_false (sym h))

-- what does not go before one does not go before a better one, at k with c
behind_better : (a b c i j k : ℕ) → before a c i k ≡ true → Behind a b i j → Behind c b k j
behind_better a b c i j k h o = by (is_before a c i k h)
  where
    by : (a < c) ⊎ ((a ≡ c) × (k < i)) → Behind c b k j
    by (inl l) = (omega (arith, o.0), λ (e : b ≡ c). let z : ⊥ = omega (arith, o.0) in absurd z)
    by (inr l) = (omega (arith, o.0, l.0), λ (e : b ≡ c). omega (arith, o.1 (e ∙ sym l.0), l.1))

-- ---- two records of one call

module _ (s : List ℕ) where
  same_back : (i j : ℕ) → same_call s i j ≡ true → same_call s j i ≡ true
  same_back i j h = sym (long_alike (ids_of (call_record s i).call) (ids_of (call_record s j).call) (ids_of (call_record s i).call) h) ∙ long_self (ids_of (call_record s i).call)

  same_both : (i j k : ℕ) → same_call s i k ≡ true → same_call s j k ≡ true → same_call s i j ≡ true
  same_both i j k a b = long_alike (ids_of (call_record s i).call) (ids_of (call_record s k).call) (ids_of (call_record s j).call) a ∙ same_back j k b

-- "the one that most connection records name, the first if equal"
pub most_named : MostNamed
unfolding kept_by_long_id
most_named fresh s i j k h a same =
    let none = every_at _ (calls_in s) (both (sound_alone fresh (call_record s i)) _ k).1 j h in
    not_before (named_by s (call_record s i)) (named_by s (call_record s j)) i j (not-true (goes_before s j i) (rw (a, same) at none))

-- ---- one is kept

-- the best of the first n records of i's call, and i itself
record Best (fresh : Table) (s : List ℕ) (i n : ℕ) : Type 0 where
  pub at : ℕ
  pub inside : at < calls_in s
  pub sound : sound_alone fresh (call_record s at) ≡ true
  pub same : same_call s at i ≡ true
  pub best : (j : ℕ) → j < n → sound_alone fresh (call_record s j) ≡ true → same_call s j i ≡ true → goes_before s j at ≡ false

module _ (fresh : Table) (s : List ℕ) (i : ℕ) (h : i < calls_in s) (a : sound_alone fresh (call_record s i) ≡ true) where
  better : (n : ℕ) → n < calls_in s → Best fresh s i n → Best fresh s i (suc n)
  better n l b = by (sound_alone fresh (call_record s n)) refl (same_call s n i) refl (goes_before s n b.at) refl
    where
      stays : (sound_alone fresh (call_record s n) ≡ true → same_call s n i ≡ true → goes_before s n b.at ≡ false) → Best fresh s i (suc n)
      stays f = record {
        at = b.at;
        inside = b.inside;
        sound = b.sound;
        same = b.same;
        best = λ j q x y. ⊎_elim (λ (e : j ≡ n). rw e (f (rw e at x) (rw e at y))) (λ (e : j < n). b.best j e x y) (eq-or-lt_of_le (le_of_suc-le-suc q));
      }

      goes : sound_alone fresh (call_record s n) ≡ true → same_call s n i ≡ true → goes_before s n b.at ≡ true → Best fresh s i (suc n)
      goes x y z = record {
        at = n;
        inside = l;
        sound = x;
        same = y;
        best = λ j q u v. ⊎_elim
            (λ (e : j ≡ n). rw e (before_not (named_by s (call_record s n)) (named_by s (call_record s n)) n n (omega arith, λ e. omega arith)))
            (λ (e : j < n).
            before_not (named_by s (call_record s n)) (named_by s (call_record s j)) n j
            (behind_better (named_by s (call_record s b.at)) (named_by s (call_record s j)) (named_by s (call_record s n)) b.at j n z
            (not_before (named_by s (call_record s b.at)) (named_by s (call_record s j)) b.at j (b.best j e u v))))
            (eq-or-lt_of_le (le_of_suc-le-suc q));
      }

      by : (x : Bool) → sound_alone fresh (call_record s n) ≡ x → (y : Bool) → same_call s n i ≡ y → (z : Bool) → goes_before s n b.at ≡ z → Best fresh s i (suc n)
      by true p true q true w = goes p q w
      by true p true q false w = stays (λ u v. w)
      by true p false q z w = stays (λ u v. absurd (not_true_false (sym v ∙ q)))
      by false p y q z w = stays (λ u v. absurd (not_true_false (sym u ∙ p)))

  best_of : (n : ℕ) → n ≤ calls_in s → Best fresh s i n
  best_of zero l = record { at = i; inside = h; sound = a; same = long_self (ids_of (call_record s i).call); best = λ j q. absurd (not-suc-le-zero q) }
  best_of (suc n) l = better n l (best_of n (omega arith))

  best_kept : (b : Best fresh s i (calls_in s)) → kept_by_long_id fresh s b.at ≡ true
  unfolding kept_by_long_id
  best_kept b = rw b.sound (every_within _ (calls_in s) (λ j l. by j l (sound_alone fresh (call_record s j)) refl (same_call s j b.at) refl))
    where
      by : (j : ℕ) → j < calls_in s → (x : Bool) → sound_alone fresh (call_record s j) ≡ x → (y : Bool) → same_call s j b.at ≡ y → not (x && y && goes_before s j b.at) ≡ true
      by j l true p true q = rw (b.best j l p (same_both s j i b.at q (same_back s b.at i b.same)))
      by j l true p false q = refl
      by j l false p y q = refl

kept_sound : (fresh : Table) (s : List ℕ) (i : ℕ) → kept_by_long_id fresh s i ≡ true → sound_alone fresh (call_record s i) ≡ true
unfolding kept_by_long_id
kept_sound fresh s i k = (both (sound_alone fresh (call_record s i)) _ k).0

sound_within : (fresh : Table) (s : List ℕ) (i : ℕ) → sound_alone fresh (call_record s i) ≡ true → (call_record s i).slot < total_of fresh
unfolding sound_alone
sound_within fresh s i h = ltb-true (call_record s i).slot (total_of fresh) (both _ _ h).0

-- two that are kept are one
kept_one : (fresh : Table) (s : List ℕ) (i j : ℕ) → i < calls_in s → j < calls_in s → kept_by_long_id fresh s i ≡ true → kept_by_long_id fresh s j ≡ true → same_call s j i ≡ true → j ≡ i
kept_one fresh s i j h l a b same =
    let x = most_named fresh s i j a l (kept_sound fresh s j b) same in
    let y = most_named fresh s j i b h (kept_sound fresh s i a) (same_back s j i same) in
    let e : named_by s (call_record s j) ≡ named_by s (call_record s i) = omega (arith, x.0, y.0) in
    omega (arith, x.1 e, y.1 (sym e))

pub one_kept : OneKept
one_kept fresh s i h a =
    let b = best_of fresh s i h a (calls_in s) (omega arith) in
    let k = best_kept fresh s i h a b in
    record {
      kept = b.at;
      inside = b.inside;
      passes = k;
      within = sound_within fresh s b.at b.sound;
      same = b.same;
      only = λ j l q v. kept_one fresh s b.at j b.inside l k q (same_both s j b.at i v b.same);
    }
