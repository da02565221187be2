-- Fours that show the same have the same place free, and the same place with a connection.
-- Assumes nothing.
use native.Mathlib.Omega.{arith}
use mathlib.Core.Path.{◌≡◌}
use Rattle.lists.specs.Below.{below, first_below}
use Rattle.table.specs.Lists.{Lsp, Four}
use Rattle.table_words.specs.Fours.{Alike}
use Rattle.table_words.proofs.Alike.{alike_place}
use Rattle.spec_changes.specs.Connections.{free_place, place_with}

module _ (f g : Four) (a : Alike f g) where
  pub free_alike : free_place f ≡ free_place g
  free_alike = rw a.places

  pub with_alike : (x : Lsp) → place_with f x ≡ place_with g x
  unfolding first_below below
  with_alike x =
      let e = alike_place f g a in
      rw (e 0 (omega arith), e 1 (omega arith), e 2 (omega arith), e 3 (omega arith))
