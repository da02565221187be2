-- A number in a byte string has the bits that its bytes have; and which lists are byte strings.
-- Assumes nothing.
use Rattle.std.proofs.Common.{ℕ, zero, suc, ◌+◌, ◌<◌, List, [], ◌∷◌, ◌++◌, take, drop, arith}
use Rattle.numbers.specs.BigEndian.{Bytes, be16_at, be24_at, be32_at}

pub be16_bound : (s : List ℕ) (at : ℕ) → Bytes s → be16_at s at < 0x10000
be16_bound s at b = omega (arith, b at, b (at + 1))

pub be24_bound : (s : List ℕ) (at : ℕ) → Bytes s → be24_at s at < 0x1000000
be24_bound s at b = omega (arith, b at, b (at + 1), b (at + 2))

pub be32_bound : (s : List ℕ) (at : ℕ) → Bytes s → be32_at s at < 0x100000000
be32_bound s at b = omega (arith, b at, b (at + 1), b (at + 2), b (at + 3))

-- ---- byte strings, element by element

abbrev pub EachByte : List ℕ → Type 0
EachByte [] = Unit {0}
EachByte (a ∷ s) = (a < 256) × EachByte s

pub each_byte : (s : List ℕ) → EachByte s → Bytes s
each_byte [] b k = omega arith
each_byte (a ∷ s) b zero = b.0
each_byte (a ∷ s) b (suc k) = each_byte s b.1 k

pub each_append : (s r : List ℕ) → EachByte s → EachByte r → EachByte (s ++ r)
each_append [] r b c = c
each_append (a ∷ s) r b c = (b.0, each_append s r b.1 c)

-- a part of a byte string is one
pub each_part : (s : List ℕ) (at size : ℕ) → Bytes s → EachByte (take size (drop at s))
each_part s at size b = taken size (drop at s) (dropped at s b)
  where
    dropped : (n : ℕ) (s : List ℕ) → Bytes s → Bytes (drop n s)
    dropped zero s b = b
    dropped (suc n) [] b = b
    dropped (suc n) (a ∷ s) b = dropped n s (λ k. b (suc k))

    taken : (n : ℕ) (s : List ℕ) → Bytes s → EachByte (take n s)
    taken zero s b = tt
    taken (suc n) [] b = tt
    taken (suc n) (a ∷ s) b = (b 0, taken n s (λ k. b (suc k)))
