-- The bytes of a slot, of all calls and of connections in a checkpoint.
use Rattle.std.specs.Prelude.{ℕ, ◌<◌, ◌≡◌, List, Bool, true}
use Rattle.lists.specs.Below.{list_if, below}
use Rattle.table.specs.Table.{Call, Table}
use Rattle.table.specs.Total.{slots}
use Rattle.table.specs.Word.{is_used}
use Rattle.table.specs.Lists.{call_at, Four, Held}
use Rattle.table.specs.Rules.{four_valid}
use Rattle.spec_checkpoint.specs.Layout.{call_bytes, connection_bytes, joined}

abbrev pub slot_bytes : Bool → ℕ → Call → List ℕ
slot_bytes used i c = list_if used (call_bytes i c)

-- all calls of a checkpoint
unfoldable pub calls_bytes : Table → List ℕ
calls_bytes t = below (λ i. slot_bytes (is_used t.occupied i) i (call_at t i)) slots

unfoldable pub held_bytes : List Held → List ℕ
held_bytes l = joined connection_bytes l

-- four connections whose numbers fit their bits in a record
pub record FourFits (f : Four) : Type 0 where
  pub call : f.call < 0x10000
  pub valid : four_valid f ≡ true
