-- A word times a factor leaves room for sixteen such products in 64 bits.
-- Assumes nothing.
use Prim.Native.Nat.{ℕ, ◌*◌, ◌<◌}
use native.Mathlib.Nat.{le_of_lt, lt_of_le_of_lt, mul-le-mul_left}
use native.Mathlib.Omega.{arith}

pub product_below : (word factor : ℕ) → word < 4294967296 → factor < 268435456 → word * factor < 1152921504606846976
product_below word factor h l = lt_of_le_of_lt (mul-le-mul_left word (le_of_lt l)) (omega arith)
