-- A loop that writes the connections of one place after another, f i of them at place i.
-- Assumes nothing.
use Prim.Native.Nat.{ℕ, ◌+◌, ◌≤◌, ◌<◌}
use mathlib.Core.Path.{◌≡◌}
use mathlib.Core.List.{List}
use lib.ListN.{length}
use Rattle.numbers.proofs.Buffer.{back_at, part_at}
use Rattle.lists.specs.Below.{below}
use Rattle.table.specs.Lists.{Held}
use Rattle.checkpoint_records.specs.Put.{Put}
use Rattle.checkpoint_write.specs.Bytes.{held_bytes}
use Rattle.checkpoint_write.proofs.Grown.{Reached, room, within_turn, turn}
use Rattle.checkpoint_write.proofs.Parts.{held_below}

module _ (f : ℕ → List Held) where
  -- how far it came before turn i
  abbrev pub RowReached : List ℕ → ℕ → ℕ → List ℕ → Type 0
  RowReached = Reached (λ i. held_bytes (f i))

  module _ {xs : List ℕ} {a : ℕ} (l : List ℕ) (i n : ℕ) (h : i < n) (k : length (held_bytes (below f n)) ≤ length l) (w : RowReached l i a xs) where
    fits : length (below (λ i. held_bytes (f i)) n) ≤ length l
    fits = rw (held_below f n) at k

    pub row_room : length (held_bytes (f i)) ≤ length (part_at xs a)
    row_room = room (λ i. held_bytes (f i)) l i n h fits w

    pub row_within : {x y : List ℕ} {r : ℕ} → Put (held_bytes (f i)) r x y → a + r ≤ length l
    row_within {r = r} v = within_turn (λ i. held_bytes (f i)) l i n h fits w r v.count

    pub row_turn : {ys : List ℕ} {r : ℕ} → Put (held_bytes (f i)) r (part_at xs a) ys → RowReached l (i + 1) (a + r) (back_at xs a ys)
    row_turn v = turn (λ i. held_bytes (f i)) l i n h fits w v

  -- after its last turn
  pub row_complete : {l xs : List ℕ} {a : ℕ} (i n : ℕ) → i ≡ n → RowReached l i a xs → Put (held_bytes (below f n)) a l xs
  row_complete i n e w = rw (held_below f n) (rw e at w.put)
