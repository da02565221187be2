-- Words of the contracts: a closing in the caller's row, and what one slot comes to.
use Rattle.std.specs.Prelude.{ℕ, ◌+◌, ◌*◌, ◌≡◌, List, Bool, cond, ◌&&◌, set}
use Rattle.lists.specs.Count.{bit}
use Rattle.table.specs.Table.{Table}
use Rattle.table.specs.Word.{is_used}
use Rattle.table.specs.Lists.{call_at}
use Rattle.spec_changes.specs.Calls.{freed}
use Rattle.spec_changes.specs.Expiry.{is_expired, Closing, closing_at}

abbrev pub with_closing : List ℕ → ℕ → Closing → List ℕ
with_closing row k c = set (set row (2 * k) c.slot) (2 * k + 1) c.address

-- a slot whose call has expired is freed and listed; any other is left
abbrev pub goes : Table → ℕ → ℕ → ℕ → Bool
goes t i time period = is_used t.occupied i && is_expired time period (call_at t i)

pub record SlotExpired (t : Table) (i time period k : ℕ) (row : List ℕ) (r : ℕ) (after : Table) (exit : List ℕ) : Type 0 where
  pub count : r ≡ k + bit (goes t i time period)
  pub table : after ≡ cond (goes t i time period) (freed t i) t
  pub listing : exit ≡ cond (goes t i time period) (with_closing row k (closing_at t i)) row
