-- What the look-up of a request finds: the tests of open and close, and the call's slot, in the rules' own words.
use Rattle.std.specs.Prelude.{ℕ, Bool, ◌&&◌, ◌||◌}
use Rattle.std.specs.Bool.{then_some}
use Rattle.std.specs.Option.{option_or}
use Rattle.lists.specs.Count.{has}
use Rattle.lists.specs.Below.{below}
use Rattle.table.specs.Table.{Call, Table}
use Rattle.table.specs.Total.{slots}
use Rattle.table.specs.Lists.{Ids, ids_of, entry_of, entries, call_four, held_in, held_at}
use Rattle.table.specs.Rules.{same_short, same_long}
use Rattle.spec_changes.specs.Calls.{is_call, slot_of}
use Rattle.spec_changes.specs.Connections.{is_under}
use Rattle.spec_calls.specs.CallRules.{is_open, short_in_use, long_in_use}
use Rattle.find_call.specs.declared.request.Look.{Look}

unfoldable pub look_of : Table → Ids → Look
look_of t c = record {
  slot = then_some (is_open (entries t) c) (slot_of t (is_call c));
  long = long_in_use (entries t) c;
  short = short_in_use (entries t) c;
  busy = has (is_under c) (below (held_at t) slots);
}

-- a look with one slot more, where that is used: its call, beside the request
unfoldable pub look_with : Look → ℕ → Bool → Call → Ids → Look
look_with w i used d c = record {
  slot = option_or w.slot (then_some (used && is_call c (entry_of i d)) i);
  long = w.long || (used && same_long c (ids_of d));
  short = w.short || (used && same_short c (ids_of d));
  busy = w.busy || (used && has (is_under c) (held_in (call_four d)));
}
