-- Fours that show the same hold the same connections, have the same places free and are valid alike.
-- Assumes nothing.
use Prim.Native.Nat.{ℕ, ◌<◌}
use mathlib.Core.Path.{◌≡◌}
use Rattle.lists.proofs.Below.{below_ext}
use Rattle.table.specs.Lists.{Four, place_at, connection_at, held_place, held_in}
use Rattle.table.specs.Rules.{four_valid}
use Rattle.table_words.specs.Fours.{Alike}

module _ (f g : Four) (a : Alike f g) where
  pub alike_connection : (j : ℕ) → j < 4 → connection_at f j ≡ connection_at g j
  alike_connection j h = rw (a.call, a.sender, a.endpoint j h, a.places)

  pub alike_place_at : (j : ℕ) → place_at f j ≡ place_at g j
  alike_place_at j = rw a.places

  pub alike_place : (j : ℕ) → j < 4 → held_place f j ≡ held_place g j
  alike_place j h = rw (a.call, a.sender, a.endpoint j h, a.places)

  pub alike_held : held_in f ≡ held_in g
  alike_held = below_ext (held_place f) (held_place g) 4 alike_place

  pub alike_valid : four_valid f ≡ four_valid g
  alike_valid = rw a.places
