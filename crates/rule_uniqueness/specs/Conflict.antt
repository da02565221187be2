-- What the loops over slots compare: words of private contracts only. No rule cites these.
use Rattle.std.specs.Prelude.{ℕ, ◌-◌, ◌≤◌, ◌<◌, ◌≡◌, Bool, true, not, ◌&&◌, ◌||◌}
use Rattle.numbers.specs.Search.{zeros_at}
use Rattle.table.specs.Table.{Table}
use Rattle.table.specs.Total.{slots}
use Rattle.table.specs.Word.{is_used}
use Rattle.table.specs.Lists.{Entry, call_at, entry_of}
use Rattle.table.specs.Rules.{same_short, same_long, same_request}

-- calls that cannot stand beside each other: of one pair, with the same short ID, the same long ID or, both made by the
-- node, the same request
abbrev pub conflict : Entry → Entry → Bool
conflict e f = same_short e.ids f.ids || same_long e.ids f.ids || same_request e f

-- the call in a slot, whether it is used or not
abbrev pub entry_at : Table → ℕ → Entry
entry_at t i = entry_of i (call_at t i)

-- slots `i` and `j` do not hold calls in conflict
abbrev pub apart_at : Table → ℕ → ℕ → Bool
apart_at t i j = not (is_used t.occupied j && (is_used t.occupied i && conflict (entry_at t j) (entry_at t i)))

-- each slot's name has at most 32 bytes, and zeros stand behind it
abbrev pub NamesEnd : Table → Type 0
NamesEnd t = (i : ℕ) → i < slots → ((call_at t i).size ≤ 32) × (zeros_at (call_at t i).name (call_at t i).size (32 - (call_at t i).size) ≡ true)
