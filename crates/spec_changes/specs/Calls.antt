-- The table with a call opened, closed, refreshed; and with the next own identifier taken.
use Rattle.std.specs.Prelude.{ℕ, Bool, ◌&&◌, length, replicate}
use Rattle.numbers.specs.Buffer.{at_front}
use Rattle.lists.specs.Count.{bit}
use Rattle.lists.specs.Below.{place_of}
use Rattle.objects.specs.declared.fields.MessageId.{MessageId}
use Rattle.table.specs.Table.{Call, Table}
use Rattle.table.specs.Total.{slots}
use Rattle.table.specs.Identifier.{identifier_after}
use Rattle.table.specs.Word.{lowest_free, with_used, with_free}
use Rattle.table.specs.Zeros.{no_place, no_call}
use Rattle.table.specs.Lists.{Ids, Entry, call_at, open_at}
use Rattle.table.specs.Rules.{same_short, same_long}
use Rattle.table.specs.Stores.{with_slot, with_next, with_refresh}

-- a call to be opened: its four, whether the node made them, and the epoch and identifier of the request for which it did
-- (02, A6)
pub record New : Type 0 where
  pub ids : Ids
  pub made : Bool
  pub request : MessageId

-- its entry in a slot
abbrev pub entry_for : ℕ → New → Entry
entry_for slot c = record { slot = slot; ids = c.ids; made = c.made; request = c.request }

-- a call as a slot holds it, opened at a time (01, Share: name bytes past the length, and free places, hold zeros)
abbrev pub stored : ℕ → New → Call
stored time c = record {
  endpoint = c.ids.endpoint;
  sender = c.ids.sender;
  refreshed = time;
  epoch = c.request.epoch;
  identifier = c.request.identifier;
  id = c.ids.short;
  made = bit c.made;
  size = length c.ids.long;
  name = at_front c.ids.long (replicate 32 0);
  places = replicate 4 no_place;
}

-- 01, Share: a new call takes the lowest free slot. There is one wherever the answer is 20 (`open_room`). 02, A7: it holds
-- the node's time.
unfoldable pub opened : Table → New → Table
opened t c = with_slot t (with_used t.occupied (lowest_free t.occupied)) (lowest_free t.occupied) (stored t.time c)

-- an entry is the call that has all four
abbrev pub is_call : Ids → Entry → Bool
is_call c e = same_short c e.ids && same_long c e.ids

-- the slot of the first call that passes a test, 0 where none does
abbrev pub slot_of : Table → (Entry → Bool) → ℕ
slot_of t p = place_of (open_at t) p slots

-- a slot is free again, and what is free holds zeros
unfoldable pub freed : Table → ℕ → Table
freed t i = with_slot t (with_free t.occupied i) i no_call

-- a close frees the call's slot. A call is closed only where it is open (33).
abbrev pub closed : Table → Ids → Table
closed t c = freed t (slot_of t (is_call c))

-- 02, A7: a call's last refresh is the node's time
unfoldable pub refreshed_at : Table → ℕ → Table
refreshed_at t i = with_slot t t.occupied i (with_refresh (call_at t i) t.time)

-- 01, Reply bytes: own identifiers rise by one a Notify sent
abbrev pub identifier_taken : Table → Table
identifier_taken t = with_next t (identifier_after t.next)
