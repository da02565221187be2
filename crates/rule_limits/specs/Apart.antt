-- Words of the contracts: addresses that differ.
use Rattle.std.specs.Prelude.{ℕ, Bool, not, ◌&&◌, ltb}
use Rattle.table.specs.Table.{Table}
use Rattle.table.specs.Lists.{customer_at, terms_of}
use Rattle.table.specs.Rules.{same_address}

-- two places of the roster have other addresses, or one of them is unused
abbrev pub other_address : Table → ℕ → ℕ → Bool
other_address t k j = not (ltb j t.listed && (ltb k t.listed && same_address (terms_of (customer_at t j)) (terms_of (customer_at t k))))
