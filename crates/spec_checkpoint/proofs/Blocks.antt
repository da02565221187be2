-- Blocks of one length written behind each other, and read again by their place.
-- Assumes nothing.
use Prim.Native.Nat.{ℕ, zero, suc, ◌+◌, ◌*◌, ◌<◌, suc-le-suc}
use native.Mathlib.Nat.{not-suc-le-zero, le_of_suc-le-suc, add_assoc, add_comm, mul-suc, mul-zero, zero-lt-suc}
use mathlib.Core.Path.{◌≡◌, refl, sym}
use mathlib.Core.List.{List, [], ◌∷◌, ◌++◌, append_assoc}
use lib.ListN.{length, get_or, length-append}
use lib.Seq.{get_or-append-add}
use Rattle.numbers.specs.BigEndian.{be16_at, be24_at, be32_at}
use Rattle.spec_checkpoint.specs.Layout.{joined}

-- a block that stands at a place of a list
pub record Split (s block : List ℕ) (at : ℕ) : Type 0 where
  pub before : List ℕ
  pub after : List ℕ
  pub list_if : s ≡ before ++ (block ++ after)
  pub size : length before ≡ at

-- ---- blocks

module _ {ℓ} {A : Type ℓ} (f : A → List ℕ) where
  pub joined_append : (l k : List A) → joined f (l ++ k) ≡ joined f l ++ joined f k
  joined_append [] k = refl
  joined_append (x ∷ l) k = rw (joined_append l k) (sym (append_assoc (f x) (joined f l) (joined f k)))

  -- each of the list makes a block of `w` bytes
  abbrev pub Blocks : ℕ → A → List A → Type 0
  Blocks w d l = (j : ℕ) → j < length l → length (f (get_or l j d)) ≡ w

  pub joined_length : (w : ℕ) (d : A) (l : List A) → Blocks w d l → length (joined f l) ≡ w * length l
  joined_length w d [] size = sym (mul-zero w)
  joined_length w d (x ∷ l) size =
      rw (length-append (f x) (joined f l), size 0 (zero-lt-suc _), joined_length w d l (λ j h. size (suc j) (suc-le-suc h)), mul-suc w (length l))
      (add_comm w (w * length l))

  -- block j of them
  pub joined_split : (w : ℕ) (d : A) (l : List A) → Blocks w d l → (j : ℕ) → j < length l → Split (joined f l) (f (get_or l j d)) (w * j)
  joined_split w d [] size j h = absurd (not-suc-le-zero h)
  joined_split w d (x ∷ l) size zero h = record { before = []; after = joined f l; list_if = refl; size = sym (mul-zero w) }
  joined_split w d (x ∷ l) size (suc j) h =
      let i = joined_split w d l (λ j h. size (suc j) (suc-le-suc h)) j (le_of_suc-le-suc h) in
      record {
        before = f x ++ i.before;
        after = i.after;
        list_if = rw i.list_if (sym (append_assoc (f x) i.before (f (get_or l j d) ++ i.after)));
        size = rw (length-append (f x) i.before, size 0 (zero-lt-suc _), i.size, mul-suc w j) (add_comm w (w * j));
      }

-- more bytes before and behind
pub split_between : (h m r b : List ℕ) (at : ℕ) → Split m b at → Split (h ++ m ++ r) b (length h + at)
split_between h m r b at i = record {
  before = h ++ i.before;
  after = i.after ++ r;
  list_if = rw (i.list_if, ← (append_assoc h i.before (b ++ i.after)), append_assoc (h ++ i.before) (b ++ i.after) r, append_assoc b i.after r);
  size = rw (length-append h i.before, i.size);
}

pub split_behind : (h m b : List ℕ) (at : ℕ) → Split m b at → Split (h ++ m) b (length h + at)
split_behind h m b at i = record {
  before = h ++ i.before;
  after = i.after;
  list_if = rw i.list_if (sym (append_assoc h i.before (b ++ i.after)));
  size = rw (length-append h i.before, i.size);
}

-- ---- reading a block

module _ (s b : List ℕ) (at : ℕ) (i : Split s b at) where
  pub read : (k : ℕ) → get_or s (at + k) 0 ≡ get_or (b ++ i.after) k 0
  read k = rw (i.list_if, ← i.size) (get_or-append-add i.before (b ++ i.after) k 0)

  further : (k m : ℕ) → get_or s (at + k + m) 0 ≡ get_or (b ++ i.after) (k + m) 0
  further k m = rw (add_assoc at k m) (read (k + m))

  pub read16 : (k : ℕ) → be16_at s (at + k) ≡ be16_at (b ++ i.after) k
  read16 k = rw (read k, further k 1)

  pub read24 : (k : ℕ) → be24_at s (at + k) ≡ be24_at (b ++ i.after) k
  read24 k = rw (read k, further k 1, further k 2)

  pub read32 : (k : ℕ) → be32_at s (at + k) ≡ be32_at (b ++ i.after) k
  read32 k = rw (read k, further k 1, further k 2, further k 3)
