-- Which records of a checkpoint a table is restored from (02, A13: salvage). All tests are those of the table rules.
use Rattle.std.specs.Prelude.{ℕ, zero, suc, List, ◌∷◌, [], Bool, cond, not, ◌&&◌, ◌||◌, ltb, eqb}
use Rattle.lists.specs.Count.{count_if, has}
use Rattle.lists.specs.Below.{below, every_below}
use Rattle.table.specs.Table.{Table}
use Rattle.table.specs.Total.{total_of}
use Rattle.table.specs.Word.{is_used, with_used}
use Rattle.table.specs.Lists.{roster, ids_of, entries, Held, held}
use Rattle.table.specs.Share.{is_listed}
use Rattle.table.specs.Rules.{same_long, same_connection, rules_hold}
use Rattle.table.specs.Stores.{with_slot}
use Rattle.spec_changes.specs.Connections.{same_four, added, call_missing, is_under}
use Rattle.spec_changes.specs.Expiry.{raised}
use Rattle.spec_checkpoint.specs.Layout.{Slotted, calls_in, connections_in, call_record, connection_record}

-- the table with a call in the slot that its record names; 02, A7 and A13: the node's time is raised to the record's refresh,
-- so that in the end it is the latest of those restored
abbrev pub placed : Table → Slotted → Table
placed t r = with_slot (raised t r.call.refreshed) (with_used t.occupied r.slot) r.slot r.call

-- step 1: a call record that could not stand in the table by itself, or whose slot is outside the total of the roster that
-- the copy is read under, is dropped
unfoldable pub sound_alone : Table → Slotted → Bool
sound_alone fresh r = ltb r.slot (total_of fresh) && rules_hold (placed fresh r)

-- how many connection records of the pair name a call by its short ID: all of them, repeated ones and those dropped
-- later too
unfoldable pub named_by : List ℕ → Slotted → ℕ
named_by s r = count_if (is_under (ids_of r.call)) (below (λ k. connection_record s k ∷ []) (connections_in s))

-- record j goes before record i: more connection records name it, or as many and it comes first
abbrev pub goes_before : List ℕ → ℕ → ℕ → Bool
goes_before s j i =
    ltb (named_by s (call_record s i)) (named_by s (call_record s j))
    || eqb (named_by s (call_record s i)) (named_by s (call_record s j)) && ltb j i

-- records j and i have one pair and long ID
abbrev pub same_call : List ℕ → ℕ → ℕ → Bool
same_call s j i = same_long (ids_of (call_record s j).call) (ids_of (call_record s i).call)

-- step 2: where several sound records have one pair and long ID, only the one that goes before all the others is kept
unfoldable pub kept_by_long_id : Table → List ℕ → ℕ → Bool
kept_by_long_id fresh s i =
    sound_alone fresh (call_record s i)
    && every_below (λ j. not (sound_alone fresh (call_record s j) && same_call s j i && goes_before s j i)) (calls_in s)

-- step 3: front to back, a call record is kept where its slot is free and the rules hold of the table with it
unfoldable pub call_fits : Table → Slotted → Bool
call_fits t r = not (is_used t.occupied r.slot) && rules_hold (placed t r)

-- call record i is kept beside those before it, which the table t has
abbrev pub call_kept : Table → Table → List ℕ → ℕ → Bool
call_kept fresh t s i = kept_by_long_id fresh s i && call_fits t (call_record s i)

-- the table from the first n call records
unfoldable pub with_calls : Table → List ℕ → ℕ → Table
with_calls fresh s zero = fresh
with_calls fresh s (suc i) =
    cond (call_kept fresh (with_calls fresh s i) s i)
    (placed (with_calls fresh s i) (call_record s i))
    (with_calls fresh s i)

-- the same of a connection: its sender is listed, it is not held yet, its nonzero Call ID is a call kept of its pair,
-- and its four are not full
unfoldable pub connection_fits : Table → Held → Bool
connection_fits t x =
    is_listed (roster t) x.lsp.sender && not (has (same_connection x) (held t)) && not (call_missing (entries t) x) && ltb (count_if (same_four x) (held t)) 4

-- connection record k is kept beside those before it
abbrev pub connection_kept : Table → List ℕ → ℕ → Bool
connection_kept t s k = connection_fits t (connection_record s k)

-- a table with the first n connection records; places close up in their order
unfoldable pub with_connections : Table → List ℕ → ℕ → Table
with_connections t s zero = t
with_connections t s (suc k) =
    cond (connection_kept (with_connections t s k) s k)
    (added (with_connections t s k) (connection_record s k))
    (with_connections t s k)

unfoldable pub salvaged : Table → List ℕ → Table
salvaged fresh s = with_connections (with_calls fresh s (calls_in s)) s (connections_in s)
