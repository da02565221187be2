use native.Mathlib.Omega.{arith}
use mathlib.Core.Path.{◌≡◌, refl, sym}
use mathlib.Core.List.{[], ◌∷◌}
use mathlib.Core.Bool.{true}
use Rattle.lists.specs.Below.{element_if}
use Rattle.lists.proofs.Below.{has_none, has_turn}
use Rattle.table.specs.Share.{is_at}
use Rattle.table.specs.Roster.{terms_in}
use Rattle.rosters.proofs.Roster.listed_before.Goals as goal

pub loop-j-init : goal.loop-j-init
loop-j-init c = sym (has_none (λ j. terms_in c.args.self.now.bytes.now j ∷ []) (is_at c.args.address))

pub loop-j-preserved : goal.loop-j-preserved
unfolding element_if
loop-j-preserved c =
    let l = c.loop-j in
    let s = c.args.self.now.bytes.now in
    has_turn (λ j. terms_in s j ∷ []) (is_at _) _ _ _ true (terms_in s l.j) refl l.invariant (rw c.get32.ensures)

pub returns : goal.returns
returns c = let e : c.loop-j.j ≡ c.args.k = omega arith in rw e at c.loop-j.invariant
