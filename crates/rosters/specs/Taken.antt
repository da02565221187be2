-- The table with a roster's record taken over.
use Rattle.std.specs.Prelude.{ℕ, List}
use Rattle.table.specs.Table.{Table}
use Rattle.table.specs.Lists.{customer_at}
use Rattle.table.specs.Stores.{with_customer, with_terms}
use Rattle.table.specs.Roster.{terms_in}

abbrev pub with_record : Table → List ℕ → ℕ → Table
with_record t s k = with_customer t k (with_terms (customer_at t k) (terms_in s k).address (terms_in s k).guarantee (terms_in s k).limit)
