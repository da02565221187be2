-- The name of an open call, by the table rules: at most 32 bytes, and zeros behind them.
-- Assumes nothing.
use Rattle.std.proofs.Common.{◌≡◌, ℕ, ◌-◌, ◌<◌, ◌≤◌, true}
use Rattle.numbers.specs.Search.{zeros_at}
use Rattle.table.specs.Table.{Table}
use Rattle.table.specs.Total.{slots}
use Rattle.table.specs.Word.{is_used}
use Rattle.table.specs.Lists.{call_at}
use Rattle.table.specs.Rules.{rules_hold}
use Rattle.table_words.proofs.Padded.{free_zeros}
use Rattle.spec_changes.proofs.Told.{rules_kept}
use Rattle.spec_changes.proofs.Valid.{ids_named}
pub use Rattle.table_words.proofs.Padded.{name_room}

module _ (t : Table) (i : ℕ) (l : i < slots) (r : rules_hold t ≡ true) (u : is_used t.occupied i ≡ true) where
  pub open_size : (call_at t i).size ≤ 32
  open_size = (ids_named (call_at t i) ((rules_kept t r).names i l u)).most

  pub open_zeros : zeros_at (call_at t i).name (call_at t i).size (32 - (call_at t i).size) ≡ true
  open_zeros = free_zeros (call_at t i) (rw u at ((rules_kept t r).slots i l))
