-- `roster_holds` meets its contract: whether customers are listed picks the case of `roster_holds`.
use Prim.Native.Nat.{ℕ}
use mathlib.Core.Path.{◌≡◌, sym, ◌∙◌}
use mathlib.Core.Bool.{Bool, ◌&&◌, ◌||◌}
use lib.Dec.{eqb, leb, ltb}
use borrow.Author.Tests.{eq-eqb, ne_eqb}
use Rattle.table.specs.Table.{Table}
use Rattle.table.specs.Total.{total_of}
use Rattle.table.specs.Lists.{roster}
use Rattle.table.specs.Rules.{acceptable, roster_holds}
use Rattle.table.specs.Words.{table_of}
use Rattle.rule_limits.proofs.roster_holds.Goals as goal

-- no customers, and some
roster_empty : (t : Table) (n f a e : ℕ) → n ≡ t.listed → f ≡ t.form → a ≡ t.address → e ≡ t.epoch → n ≡ 0 → (eqb f 0 && eqb a 0 && eqb e 0) ≡ roster_holds t
unfolding roster_holds
roster_empty t n f a e p o q r z = rw (o, q, r, eq-eqb t.listed 0 (sym p ∙ z))

roster_some : (t : Table) (n f g e : ℕ) (b : Bool) → n ≡ t.listed → f ≡ t.form → g ≡ t.form → e ≡ t.epoch → (n ≡ 0 → ⊥) → b ≡ acceptable (total_of t) (roster t)
    → ((eqb f 1 || eqb g 2) && leb n 8 && ltb e 0x1000000 && b) ≡ roster_holds t
unfolding roster_holds
roster_some t n f g e b p o u q z h = rw (p, o, u, q, h, ne_eqb t.listed 0 (λ y. z (p ∙ y)))

pub returns-then-listed-eq0 : goal.returns-then-listed-eq0
returns-then-listed-eq0 c =
    roster_empty (table_of c.args.t.now) _ _ _ _ c.listed-listed.ensures c.form.ensures c.address.ensures c.epoch.ensures c.if-listed-eq0.true

pub returns : goal.returns
returns c =
    roster_some (table_of c.args.t.now) _ _ _ _ _ c.listed-listed.ensures c.form-2.ensures c.form-3.ensures c.epoch-2.ensures c.if-listed-eq0.false c.is_acceptable.ensures
