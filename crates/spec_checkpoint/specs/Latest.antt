-- The latest refresh of a table's calls (02, A7 and A13): the time at which the node starts when it has read them.
use Rattle.std.specs.Prelude.{ℕ, zero, suc, max, cond}
use Rattle.table.specs.Table.{Table}
use Rattle.table.specs.Total.{slots}
use Rattle.table.specs.Word.{is_used}
use Rattle.table.specs.Lists.{call_at}

-- the largest of the first n numbers of a row, 0 of none
unfoldable pub largest_below : (ℕ → ℕ) → ℕ → ℕ
largest_below f zero = 0
largest_below f (suc n) = max (largest_below f n) (f n)

-- a free slot has no refresh
abbrev pub refresh_in : Table → ℕ → ℕ
refresh_in t i = cond (is_used t.occupied i) (call_at t i).refreshed 0

-- "the latest refresh restored (0 if none)"
abbrev pub latest_refresh : Table → ℕ
latest_refresh t = largest_below (refresh_in t) slots
