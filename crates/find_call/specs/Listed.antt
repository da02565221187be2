-- What the look-up of an address that is listed finds in the roster.
use Rattle.std.specs.Prelude.{◌≡◌, ℕ}
use Rattle.table.specs.Table.{Table}
use Rattle.table.specs.Lists.{roster}
use Rattle.table.specs.Share.{guarantee_of, limit_of}
use Rattle.spec_changes.specs.Connections.{customer_of}
use Rattle.find_call.specs.declared.share.Listing.{Listing}

pub record ListingOf (t : Table) (address : ℕ) (r : Listing) : Type 0 where
  pub place : r.place ≡ customer_of t address
  pub guarantee : r.guarantee ≡ guarantee_of (roster t) address
  pub limit : r.limit ≡ limit_of (roster t) address
