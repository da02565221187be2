-- The calls of each of the eight roster records, used or not, counted in one pass.
use Rattle.std.specs.Prelude.{ℕ, ◌+◌, List, [], ◌∷◌, eqb, get_or}
use Rattle.lists.specs.Count.{bit}
use Rattle.lists.specs.Below.{below}
use Rattle.table.specs.Table.{Table}
use Rattle.table.specs.Lists.{customer_at, Entry}
use Rattle.table.specs.Share.{calls_of}

-- the records' addresses
unfoldable pub addresses_of : Table → List ℕ
addresses_of t = below (λ k. (customer_at t k).address ∷ []) 8

-- how many of some calls each record's address has sent
unfoldable pub calls_each : Table → List Entry → List ℕ
calls_each t l = below (λ k. calls_of l (customer_at t k).address ∷ []) 8

-- the counts of eight addresses with one more call of a sender
unfoldable pub tallied : List ℕ → List ℕ → ℕ → List ℕ
tallied counts addresses sender = below (λ k. (get_or counts k 0 + bit (eqb (get_or addresses k 0) sender)) ∷ []) 8
