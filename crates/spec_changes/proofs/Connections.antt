-- Changes of connections: one place of one four. What it leaves alone, what it does to the connections in every count,
-- and that no connection comes to stand twice.
-- Assumes nothing.
use Prim.Native.Nat.{ℕ, ◌+◌, ◌≤◌, ◌<◌}
use native.Mathlib.Omega.{arith}
use mathlib.Core.Path.{◌≡◌, refl}
use mathlib.Core.List.{List}
use mathlib.Core.Bool.{Bool, true, false}
use Rattle.lists.specs.Count.{bit, count_if}
use Rattle.lists.proofs.Count.{count_ext}
use Rattle.lists.proofs.Below.{below_one}
use Rattle.table.specs.Table.{Table}
use Rattle.table.specs.Lists.{roster, Entry, entries, Held, Four, held_place, held_in, held}
use Rattle.table.specs.Rules.{same_connection}
use Rattle.spec_changes.specs.Shape.{Shape}
use Rattle.spec_changes.proofs.Alike.{lsp_alike}
use Rattle.spec_changes.proofs.Kept.{Kept}

-- two tables with the same roster and calls: the second keeps the rules where none of its connections stands twice
pub record SameCalls (t u : Table) : Type 0 where
  pub roster : roster u ≡ roster t
  pub entries : (p : Entry → Bool) → count_if p (entries u) ≡ count_if p (entries t)
  pub shape : Shape u
  pub kept : Kept t → ((x : Held) → count_if (same_connection x) (held u) ≤ 1) → Kept u

-- one of t's fours, f, is g in u, and the two differ at most in place j
pub record OnePlace (t u : Table) (f g : Four) (j : ℕ) : Type 0 where
  pub same : SameCalls t u
  pub within : (p : Held → Bool) → count_if p (held_in f) ≤ count_if p (held t)
  pub counts : (p : Held → Bool) → count_if p (held u) + count_if p (held_in f) ≡ count_if p (held t) + count_if p (held_in g)
  pub other : (i : ℕ) → (i ≡ j → ⊥) → held_place g i ≡ held_place f i

-- the connections, in every count
pub place_held : (t u : Table) (f g : Four) (j : ℕ) → j < 4 → OnePlace t u f g j → (p : Held → Bool)
    → count_if p (held u) + count_if p (held_place f j) ≡ count_if p (held t) + count_if p (held_place g j)
place_held t u f g j four o p = omega (arith, o.counts p, below_one (held_place g) (held_place f) p j 4 four (λ i n. rw (o.other i n)))

-- a new connection stands once
pub once_more : (l k : List Held) (x : Held) → ((p : Held → Bool) → count_if p k ≡ bit (p x) + count_if p l) → count_if (same_connection x) l ≡ 0
    → ((y : Held) → count_if (same_connection y) l ≤ 1) → (y : Held) → count_if (same_connection y) k ≤ 1
once_more l k x more new once y = by (same_connection y x) refl (more (same_connection y))
  where
    by : (b : Bool) → same_connection y x ≡ b → count_if (same_connection y) k ≡ bit b + count_if (same_connection y) l → count_if (same_connection y) k ≤ 1
    by true e m = omega (arith, count_ext (same_connection y) (same_connection x) l (λ z. lsp_alike y x z e))
    by false e m = omega (arith, once y)
