-- Places closed up (02, A13): no free place stands before a taken one; and a call without its places.
use Rattle.std.specs.Prelude.{ℕ, suc, ◌<◌, ◌≡◌, Bool, true, replicate}
use Rattle.table.specs.Table.{Call, Table}
use Rattle.table.specs.Total.{slots}
use Rattle.table.specs.Zeros.{no_place}
use Rattle.table.specs.Lists.{customer_at, call_at, call_four, customer_four, place_at, is_taken}

-- of four places
abbrev pub InOrder : (ℕ → Bool) → Type 0
InOrder taken = (j : ℕ) → j < 3 → taken (suc j) ≡ true → taken j ≡ true

pub record ClosedUp (t : Table) : Type 0 where
  pub under : (i : ℕ) → i < slots → InOrder (λ j. is_taken (place_at (call_four (call_at t i)) j))
  pub standalone : (k : ℕ) → k < 8 → InOrder (λ j. is_taken (place_at (customer_four (customer_at t k)) j))

-- every field of a call but its places, as its record has it
abbrev pub without_places : Call → Call
without_places c = record {
  endpoint = c.endpoint;
  sender = c.sender;
  refreshed = c.refreshed;
  epoch = c.epoch;
  identifier = c.identifier;
  id = c.id;
  made = c.made;
  size = c.size;
  name = c.name;
  places = replicate 4 no_place;
}
