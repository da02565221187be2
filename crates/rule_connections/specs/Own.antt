-- The connections of one customer: words of private contracts only. No rule cites these.
use Rattle.std.specs.Prelude.{ℕ, List, ◌++◌, ◌&&◌, eqb}
use Rattle.lists.specs.Below.{list_if, below}
use Rattle.table.specs.Table.{Table}
use Rattle.table.specs.Total.{slots}
use Rattle.table.specs.Word.{is_used}
use Rattle.table.specs.Lists.{customer_at, call_at, Held, call_four, customer_four, held_in}

-- those of a slot, where its call is from an address
abbrev pub own_at : Table → ℕ → ℕ → List Held
own_at t address i = list_if (is_used t.occupied i && eqb (call_at t i).sender address) (held_in (call_four (call_at t i)))

-- those under the calls of customer k, then those of Call ID 0
abbrev pub own : Table → ℕ → List Held
own t k = below (own_at t (customer_at t k).address) slots ++ held_in (customer_four (customer_at t k))
