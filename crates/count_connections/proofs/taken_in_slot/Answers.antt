-- `taken_in_slot` meets its contract: the call's four is that of the table.
use native.Mathlib.Omega.{arith}
use Prim.Native.Nat.{ℕ}
use mathlib.Core.Path.{◌≡◌, refl, sym, ap, ◌∙◌}
use mathlib.Core.Bool.{Bool, true, false, cond}
use Rattle.lists.specs.Count.{count_if}
use Rattle.table.specs.Lists.{Held}
use Rattle.table_words.proofs.Alike.{alike_held}
use Rattle.count_connections.proofs.taken_in_slot.Goals as goal

-- what a used slot has, and a free one
used_has : (b : Bool) (n m : ℕ) → b ≡ true → n ≡ m → n ≡ cond b m 0
used_has b n m u e = rw u e

free_has : (b : Bool) (n m : ℕ) → b ≡ false → n ≡ 0 → n ≡ cond b m 0
free_has b n m u e = rw u e

pub returns-then-is_used : goal.returns-then-is_used
returns-then-is_used c =
    let e = c.taken_in.ensures in
    let used = sym c.is_used.ensures ∙ c.if-is_used.true in
    (used_has _ _ _ used (e.0 ∙ ap (λ l. count_if (λ (x : Held). true) l) (alike_held _ _ c.call_four.ensures)), e.1)

pub returns : goal.returns
returns c = (free_has _ _ _ (sym c.is_used.ensures ∙ c.if-is_used.false) refl, omega arith)
