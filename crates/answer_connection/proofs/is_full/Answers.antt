-- `is_full`: the two counts come to four, without adding them.
use borrow.Author.Tests.{leb-true, leb-false, le-leb, lt-leb}
use Prim.Native.Nat.{ℕ, ◌+◌, ◌-◌, ◌<◌}
use lib.Dec.{leb}
use mathlib.Core.Bool.{Bool, true, false}
use mathlib.Core.Path.{◌≡◌, refl, sym}
use native.Mathlib.Omega.{arith}
use Rattle.answer_connection.proofs.is_full.Goals as goal

rest : (u l : ℕ) → u < 4 → leb (4 - u) l ≡ leb 4 (u + l)
rest u l h = by (leb 4 (u + l)) refl
  where
    by : (b : Bool) → leb 4 (u + l) ≡ b → leb (4 - u) l ≡ b
    by true e = le-leb (4 - u) l (omega (arith, leb-true 4 (u + l) e))
    by false e = lt-leb (4 - u) l (omega (arith, leb-false 4 (u + l) e))

pub returns-then-under-ge4 : goal.returns-then-under-ge4
returns-then-under-ge4 c = sym (le-leb 4 (c.args.under + c.args.standalone) (omega arith))

pub returns : goal.returns
returns c = rest c.args.under c.args.standalone (omega arith)
