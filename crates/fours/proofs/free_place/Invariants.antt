-- `free_place` meets its contract: the places passed are taken.
use Prim.Native.Nat.{ℕ, ◌<◌}
use mathlib.Core.Path.{◌≡◌}
use mathlib.Core.Bool.{true}
use Rattle.table.specs.Lists.{place_at, is_taken}
use Rattle.table_words.specs.Fours.{four_at_word}
use Rattle.fours.proofs.free_place.Given as goal

abbrev pub invariant-loop-j : goal.invariant-loop-j
invariant-loop-j l = (k : ℕ) → k < l.j → is_taken (place_at (four_at_word l.t l.f) k) ≡ true
