-- The whole checkpoint: its parts one behind the other, how long it is, and what writing it is answered.
-- Assumes nothing.
use Prim.Native.Nat.{ℕ, ◌+◌, ◌*◌, ◌≤◌, ◌<◌}
use native.Mathlib.Omega.{arith}
use mathlib.Core.Path.{◌≡◌, refl, ap}
use mathlib.Core.Bool.{true, false}
use mathlib.Core.List.{List, ◌++◌, append_assoc}
use lib.ListN.{length, length-append}
use borrow.Author.Tests.{lt-ltb, le-ltb}
use Rattle.numbers.specs.Buffer.{at_front}
use Rattle.lists.specs.Below.{below}
use Rattle.table.specs.Table.{Table}
use Rattle.table.specs.Total.{slots}
use Rattle.table.specs.Lists.{entries, held_at, standalone_at, held}
use Rattle.table.specs.Rules.{rules_hold}
use Rattle.spec_checkpoint.specs.Layout.{head_bytes, checkpoint_of}
use Rattle.spec_checkpoint.specs.Restored.{written}
use Rattle.checkpoint_records.specs.Put.{Put}
use Rattle.checkpoint_write.specs.Bytes.{held_bytes, calls_bytes}
use Rattle.checkpoint_write.proofs.Parts.{held_append, held_length}

-- ---- the parts of a checkpoint

checkpoint_parts : (t : Table) → checkpoint_of t ≡ head_bytes (length (entries t)) (length (held t)) ++ calls_bytes t ++ held_bytes (held t)
unfolding checkpoint_of calls_bytes held_bytes
checkpoint_parts t = refl

pub checkpoint_length : (t : Table) → length (checkpoint_of t) ≡ 4 + length (calls_bytes t) + 18 * length (held t)
checkpoint_length t =
    let h = head_bytes (length (entries t)) (length (held t)) in
    omega (arith, ap length (checkpoint_parts t), length-append (h ++ calls_bytes t) (held_bytes (held t)), length-append h (calls_bytes t), held_length (held t))

-- where a checkpoint fits, its parts do
pub checkpoint_fits : (t : Table) (n : ℕ) → length (checkpoint_of t) ≤ n
    → 4 + length (calls_bytes t) + length (held_bytes (below (held_at t) slots)) + length (held_bytes (below (standalone_at t) 8)) ≤ n
checkpoint_fits t n h =
    let a = below (held_at t) slots in
    let b = below (standalone_at t) 8 in
    omega (arith, checkpoint_length t, held_length (held t), ap length (held_append a b), length-append (held_bytes a) (held_bytes b))

pub checkpoint_put : {r : ℕ} {x y : List ℕ} (t : Table) (calls connections : ℕ) → calls ≡ length (entries t) → connections ≡ length (held t)
    → Put (head_bytes calls connections ++ calls_bytes t ++ held_bytes (below (held_at t) slots) ++ held_bytes (below (standalone_at t) 8)) r x y → Put (checkpoint_of t) r x y
checkpoint_put t calls connections e f w =
    let h = head_bytes (length (entries t)) (length (held t)) ++ calls_bytes t in
    let a = below (held_at t) slots in
    let b = below (standalone_at t) 8 in
    rw (checkpoint_parts t, held_append a b, ← append_assoc h (held_bytes a) (held_bytes b)) (rw (e, f) at w)

-- ---- what writing is answered

module _ (t : Table) (b : List ℕ) where
  pub written_broken : rules_hold t ≡ false → written t b ≡ record { answer = 1; length = 0; buffer = b }
  unfolding written
  written_broken h = rw h

  pub written_short : rules_hold t ≡ true → length b < length (checkpoint_of t) → written t b ≡ record { answer = 73; length = 0; buffer = b }
  unfolding written
  written_short h l = rw (h, lt-ltb (length b) (length (checkpoint_of t)) l)

  pub written_complete : rules_hold t ≡ true → length (checkpoint_of t) ≤ length b → written t b ≡ record { answer = 0; length = length (checkpoint_of t); buffer = at_front (checkpoint_of t) b }
  unfolding written
  written_complete h l = rw (h, le-ltb (length b) (length (checkpoint_of t)) l)
