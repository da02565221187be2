-- What the table of any words has: how long its lists are, and that the occupancy's words are four of 64 bits.
use Rattle.std.specs.Prelude.{ℕ, ◌≤◌, ◌<◌, ◌≡◌, length}
use Rattle.table.specs.Table.{Table}
use Rattle.table.specs.Total.{slots}
use Rattle.table.specs.Word.{FourWords}
use Rattle.table.specs.Lists.{call_at, customer_at}

pub record Shape (t : Table) : Type 0 where
  pub calls : slots ≤ length t.calls
  pub customers : length t.customers ≡ 8
  pub words : FourWords t.occupied
  pub places : (i : ℕ) → i < slots → length (call_at t i).places ≡ 4
  pub endpoints : (k : ℕ) → k < 8 → length (customer_at t k).endpoints ≡ 4
  pub standalone_places : (k : ℕ) → k < 8 → length (customer_at t k).places ≡ 4
