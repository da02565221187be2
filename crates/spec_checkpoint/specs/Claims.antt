-- What is claimed of checkpoints (02, A13), each claim a type by name. The proof of a claim stands in proofs/ and has its
-- name in small letters: `round_trip : RoundTrip`.
use Rattle.std.specs.Prelude.{ℕ, ◌+◌, ◌*◌, ◌≤◌, ◌<◌, ◌≡◌, List, [], ◌∷◌, Bool, true, false, not, eqb, length, get_or}
use Rattle.numbers.specs.BigEndian.{Bytes}
use Rattle.numbers.specs.Search.{is_in}
use Rattle.lists.specs.Count.{count_if}
use Rattle.lists.specs.Below.{below}
use Rattle.table.specs.Table.{Call, Table}
use Rattle.table.specs.Total.{slots, total_of}
use Rattle.table.specs.Word.{is_used}
use Rattle.table.specs.Zeros.{empty_table}
use Rattle.table.specs.Lists.{customer_at, roster, call_at, Entry, entries, call_four, customer_four, held_in, Held, held}
use Rattle.table.specs.Words.{table_of}
use Rattle.table.specs.Share.{is_listed, S}
use Rattle.table.specs.Rules.{same_request, rules_hold}
use Rattle.table.specs.Roster.{form_in, customers_in, total_in, records_in, roster_number, roster_answer, fresh_table}
use Rattle.spec_changes.specs.Shape.{Shape}
use Rattle.spec_changes.specs.Last.{none, last_of}
use Rattle.spec_promises.specs.Ledger.{ledger, last_in}
use Rattle.spec_promises.specs.Connections.{connections_after}
use Rattle.spec_promises.specs.Promises.{Input, AtEveryStep, Promised, Agrees, Remembers}
use Rattle.spec_checkpoint.specs.Layout.{Slotted, calls_in, connections_in, call_record, checkpoint_of}
use Rattle.spec_checkpoint.specs.Places.{ClosedUp, without_places}
use Rattle.spec_checkpoint.specs.Latest.{latest_refresh}
use Rattle.spec_checkpoint.specs.Salvage.{placed, sound_alone, named_by, same_call, kept_by_long_id, call_fits, call_kept, with_calls, connection_kept, with_connections}
use Rattle.spec_checkpoint.specs.Restored.{written, Restored, bad_size, drops_none, restored}

-- ---- writing

-- a table that keeps the rules, with lists of the right length
pub record Writable (t : Table) : Type 0 where
  pub shape : Shape t
  pub names : (i : ℕ) → i < slots → length (call_at t i).name ≡ 32
  pub rules : rules_hold t ≡ true

-- the table of any words is one, where it keeps the rules
abbrev pub WordsWritable : Type 0
WordsWritable = (w : List ℕ) → ((i : ℕ) → get_or w i 0 < 0x100000000) → rules_hold (table_of w) ≡ true → Writable (table_of w)

-- "73 buffer too short": a table that keeps the rules is written exactly where the buffer has room for its copy. Not so of a
-- node that asks for a byte more than it writes.
abbrev pub ExactFit : Type 0
ExactFit =
    (t : Table) (buffer : List ℕ) → rules_hold t ≡ true
    → (length (checkpoint_of t) ≤ length buffer → (written t buffer).answer ≡ 0) × (length buffer < length (checkpoint_of t) → (written t buffer).answer ≡ 73)

-- the least copy, of a table without calls and connections: form 1 and two counts of 0, into four bytes and not into
-- three
abbrev pub LeastCopy : Type 0
LeastCopy =
    (written empty_table (0xee ∷ 0xee ∷ 0xee ∷ 0xee ∷ []) ≡ record { answer = 0; length = 4; buffer = 0x10 ∷ 0 ∷ 0 ∷ 0 ∷ [] })
    × (written empty_table (0xee ∷ 0xee ∷ 0xee ∷ []) ≡ record { answer = 73; length = 0; buffer = 0xee ∷ 0xee ∷ 0xee ∷ [] })

-- a copy has four bytes, 55 for each call and 18 for each connection
abbrev pub CopySize : Type 0
CopySize = (t : Table) → Writable t → length (checkpoint_of t) ≡ 4 + 55 * length (entries t) + 18 * length (held t)

-- ---- what was written is read

-- a reading that drops nothing and gives a table's calls and connections, places closed up
pub record ReadBack (t : Table) (f : Restored) : Type 0 where
  pub answer : f.answer ≡ 0
  pub calls_dropped : f.calls ≡ 0
  pub connections_dropped : f.connections ≡ 0
  -- the same slots are used, and the call in each has every field that it had: its last refresh (02, A7), and of one that
  -- the node made (02, A6) the mark and the request's epoch and identifier too
  pub occupied : f.table.occupied ≡ t.occupied
  pub calls : (i : ℕ) → i < slots → is_used t.occupied i ≡ true → without_places (call_at f.table i) ≡ without_places (call_at t i)
  -- the node's time is the latest refresh of the calls that were written, whatever its time was when it wrote them
  pub time : f.table.time ≡ latest_refresh t
  -- each call and each customer has the same connections in the same order
  pub under : (i : ℕ) → i < slots → held_in (call_four (call_at f.table i)) ≡ held_in (call_four (call_at t i))
  pub standalone : (k : ℕ) → k < 8 → held_in (customer_four (customer_at f.table k)) ≡ held_in (customer_four (customer_at t k))
  pub closed : ClosedUp f.table
  -- so that all open calls are the same, and all connections, as lists
  pub entries : entries f.table ≡ entries t
  pub held : held f.table ≡ held t

-- "Reading what was written under unchanged customer records and roster form gives the same calls and connections,
-- places closed up." Not so of a node that moves a call to another slot, loses one field of it, or has two connections of
-- a four in each other's place.
abbrev pub RoundTrip : Type 0
RoundTrip =
    (t : Table) → Writable t → (r : List ℕ) → Bytes r → roster_number (roster_answer r) ≡ 0 → roster t ≡ records_in r (customers_in r) → t.form ≡ form_in r
    → ReadBack t (restored false r (checkpoint_of t))

-- salvage of such a copy gives the same, and so drops nothing. Not so of a node whose salvage gives up a sound record.
abbrev pub SalvageSame : Type 0
SalvageSame =
    (t : Table) → Writable t → (r : List ℕ) → Bytes r → roster_number (roster_answer r) ≡ 0 → roster t ≡ records_in r (customers_in r) → t.form ≡ form_in r
    → restored true r (checkpoint_of t) ≡ restored false r (checkpoint_of t)

-- ---- whatever bytes are read

-- the table that a reading gives keeps the table rules, for every string of bytes as roster and as checkpoint. Not so of a
-- node that takes a record for sound unseen.
abbrev pub RestoredHolds : Type 0
RestoredHolds = (salvage : Bool) (r s : List ℕ) → Bytes r → Bytes s → rules_hold (restored salvage r s).table ≡ true

-- "the node's time at the latest refresh restored (0 if none)": of every reading, plain or with salvage, the table's time
-- is the latest refresh of the calls that it has; 0 after a refused one. Not so of a node that keeps the refreshes and
-- starts at time 0: its table breaks a rule, and every message is answered 1. Nor of one that takes the time from a record
-- that was dropped: one bad record of a far time would have all calls without connections expire at the first message.
abbrev pub TimeRestored : Type 0
TimeRestored =
    (salvage : Bool) (r s : List ℕ) → Bytes r → Bytes s → (restored salvage r s).table.time ≡ latest_refresh (restored salvage r s).table

-- "72 (plain only) a record that salvage would drop": plain reading answers 72 exactly when salvage drops something. Not
-- so of a node that drops one in silence, or refuses a copy that could be read whole.
abbrev pub Plain72 : Type 0
Plain72 = (r s : List ℕ) → eqb (restored false r s).answer 72 ≡ not (drops_none (restored true r s))

-- where salvage drops nothing, plain reading gives the same: answer, table and counts. Not so of a node with two ways of
-- reading.
abbrev pub PlainSame : Type 0
PlainSame = (r s : List ℕ) → drops_none (restored true r s) ≡ true → restored false r s ≡ restored true r s

-- under an accepted roster salvage answers 0, 70 or 71. Not so of a node whose salvage refuses a copy for its records.
abbrev pub SalvageAnswers : Type 0
SalvageAnswers = (r s : List ℕ) → roster_number (roster_answer r) ≡ 0 → is_in (restored true r s).answer (0 ∷ 70 ∷ 71 ∷ []) ≡ true

-- "70 bytes too few or too many for the counts, 71 form not 1", in this order. Not so of a node that looks at the form
-- first.
abbrev pub SizeFirst : Type 0
SizeFirst = (salvage : Bool) (r s : List ℕ) → roster_number (roster_answer r) ≡ 0 → bad_size s ≡ true → (restored salvage r s).answer ≡ 70

-- ---- what salvage keeps

-- "of those left with one pair and long ID it keeps the one that most connection records of the pair name by short ID,
-- the first if equal": no other sound record of the same call has more that name it, and none before it has as many. Not
-- so of a node that keeps the first whatever names it: the night's copy.
abbrev pub MostNamed : Type 0
MostNamed =
    (fresh : Table) (s : List ℕ) (i j : ℕ) → kept_by_long_id fresh s i ≡ true → j < calls_in s → sound_alone fresh (call_record s j) ≡ true → same_call s j i ≡ true
    → (named_by s (call_record s j) ≤ named_by s (call_record s i)) × (named_by s (call_record s j) ≡ named_by s (call_record s i) → i ≤ j)

-- of the records of one call, one and no other is kept by that, and its slot is below the total. Not so of a node that
-- drops them all, keeps two, or prefers one that is dropped later since its slot is outside.
pub record OneOf (fresh : Table) (s : List ℕ) (i : ℕ) : Type 0 where
  pub kept : ℕ
  pub inside : kept < calls_in s
  pub passes : kept_by_long_id fresh s kept ≡ true
  pub within : (call_record s kept).slot < total_of fresh
  pub same : same_call s kept i ≡ true
  pub only : (j : ℕ) → j < calls_in s → kept_by_long_id fresh s j ≡ true → same_call s j i ≡ true → j ≡ kept

abbrev pub OneKept : Type 0
OneKept = (fresh : Table) (s : List ℕ) (i : ℕ) → i < calls_in s → sound_alone fresh (call_record s i) ≡ true → OneOf fresh s i

-- connections "name by short ID", whatever slot a record has. Not so of a node that takes a Call ID for a slot.
abbrev pub SlotNotLookedAt : Type 0
SlotNotLookedAt = (s : List ℕ) (c : Call) (i j : ℕ) → named_by s (record { slot = i; call = c }) ≡ named_by s (record { slot = j; call = c })

-- "drops calls that .. name a slot outside the total", the total of the roster that the copy is read under: every slot that
-- the table restored uses is below it, in plain and with salvage. Not so of a node that puts a call into slot 64 under a
-- roster of form 1, since the table has that slot, or makes room for it by taking the roster for one of form 2.
abbrev pub OutsideDropped : Type 0
OutsideDropped =
    (salvage : Bool) (r s : List ℕ) → Bytes r → Bytes s → roster_number (roster_answer r) ≡ 0 → (slot : ℕ)
    → is_used (restored salvage r s).table.occupied slot ≡ true → slot < total_in r

-- "drops each record that .. takes a taken slot". Not so of a node that moves it to a free one, or puts it there all the
-- same.
abbrev pub TakenSlotDropped : Type 0
TakenSlotDropped = (t : Table) (r : Slotted) → is_used t.occupied r.slot ≡ true → call_fits t r ≡ false

-- "drops each record that breaks a table rule .. beside those kept": S stays within the total. Not so of a node that tests
-- the slot alone.
abbrev pub ShareKept : Type 0
ShareKept = (t : Table) (r : Slotted) → call_fits t r ≡ true → S (roster (placed t r)) (entries (placed t r)) ≤ total_of t

-- and no two calls that the node made for a pair share the two numbers of their requests (02, A6). Not so of a node that
-- tests the two IDs alone: after a restart a retry would find two calls.
abbrev pub RequestsKept : Type 0
RequestsKept = (t : Table) (r : Slotted) → call_fits t r ≡ true → (e : Entry) → count_if (same_request e) (entries (placed t r)) ≤ 1

-- ---- what is reported as dropped

abbrev pub call_dropped : List ℕ → List ℕ → ℕ → Bool
call_dropped r s i = not (call_kept (fresh_table r) (with_calls (fresh_table r) s i) s i)

abbrev pub connection_dropped : List ℕ → List ℕ → ℕ → Bool
connection_dropped r s k = not (connection_kept (with_connections (with_calls (fresh_table r) s (calls_in s)) s k) s k)

-- how many numbers below n pass a test
abbrev pub count_below : (ℕ → Bool) → ℕ → ℕ
count_below p n = count_if p (below (λ i. i ∷ []) n)

-- "and reports how many calls and connections it dropped": the records that were not kept, each counted once. Not so of a
-- node that counts a call's connections as one, or a record moved elsewhere as dropped.
abbrev pub CallsDropped : Type 0
CallsDropped =
    (salvage : Bool) (r s : List ℕ) → Bytes r → Bytes s → (restored salvage r s).answer ≡ 0 → (restored salvage r s).calls ≡ count_below (call_dropped r s) (calls_in s)

abbrev pub ConnectionsDropped : Type 0
ConnectionsDropped =
    (salvage : Bool) (r s : List ℕ) → Bytes r → Bytes s → (restored salvage r s).answer ≡ 0
    → (restored salvage r s).connections ≡ count_below (connection_dropped r s) (connections_in s)

-- ---- what comes after

-- "Demand 3's list may also start from a table so read under an accepted roster: the ledger then holds the calls that these
-- rules restore, none after a refused reading, with their slots and, if made, their two numbers, and counts them as opened."
-- The ledger begins with the table's entries: an entry has its slot, its mark and its request's two numbers, so that a
-- request without names finds the call that was made for it before the restart. The total is that of the roster. Not so of
-- a node that counts a restored call as room left, makes a second call for a retry, or takes the total of the roster that
-- the copy was written under.
abbrev pub Demand3Restored : Type 0
Demand3Restored =
    (salvage : Bool) (r s : List ℕ) → Bytes r → Bytes s → roster_number (roster_answer r) ≡ 0 → (xs : List Input)
    → AtEveryStep (Promised (total_in r) (records_in r (customers_in r)) (entries (restored salvage r s).table)) (restored salvage r s).table [] xs

-- "A8's identifiers are forgotten": a table that was read keeps none of any customer, so that the first Notify of each is
-- taken. Not so of a node that finds a customer's Notify late by what it was sent before the restart
abbrev pub LastForgotten : Type 0
LastForgotten =
    (salvage : Bool) (r s : List ℕ) → Bytes r → Bytes s → roster_number (roster_answer r) ≡ 0 → (sender : ℕ) → is_listed (records_in r (customers_in r)) sender ≡ true
    → last_of (restored salvage r s).table sender ≡ none

-- and from then on it keeps what messages and answers since say
abbrev pub LastRestored : Type 0
LastRestored =
    (salvage : Bool) (r s : List ℕ) → Bytes r → Bytes s → roster_number (roster_answer r) ≡ 0 → (xs : List Input)
    → AtEveryStep (λ u h x. Remembers u (last_in h)) (restored salvage r s).table [] xs

-- all along such a run the table keeps the rules and has the calls of that ledger
abbrev pub AgreesRestored : Type 0
AgreesRestored =
    (salvage : Bool) (r s : List ℕ) → Bytes r → Bytes s → roster_number (roster_answer r) ≡ 0 → (xs : List Input)
    → AtEveryStep (λ u h x. Agrees u (ledger (total_in r) (entries (restored salvage r s).table) h)) (restored salvage r s).table [] xs

-- and the connections that were restored, those added since, and no other, each under its Call ID. Not so of a node that
-- lights a path under another call after a restart
abbrev pub ConnectionsRestored : Type 0
ConnectionsRestored =
    (salvage : Bool) (r s : List ℕ) → Bytes r → Bytes s → roster_number (roster_answer r) ≡ 0 → (xs : List Input)
    → AtEveryStep (λ u h x. (p : Held → Bool) → count_if p (held u) ≡ count_if p (connections_after (held (restored salvage r s).table) h)) (restored salvage r s).table [] xs
