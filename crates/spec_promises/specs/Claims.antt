-- What the node promises, by name: the statements behind the auditor's questions (docs/ARCHITECTURE.md). Each is proved
-- in proofs/ under the same name, written with hyphens. The node that each rules out is named beside it.
use Rattle.std.specs.Prelude.{ℕ, max, ◌-◌, ◌*◌, ◌≤◌, ◌<◌, ◌≡◌, List, [], ◌∷◌, ◌++◌, Bool, true, false, cond, ◌&&◌, ◌||◌, length, take, drop}
use Rattle.numbers.specs.BigEndian.{Bytes}
use Rattle.numbers.specs.Checksum.{words_sum}
use Rattle.lists.specs.Count.{count_if, has}
use Rattle.messages.specs.declared.message.CallRequest.{CallRequest}
use Rattle.messages.specs.declared.message.Message.TheVariants.{Open, Close}
use Rattle.messages.specs.Read.{received, read_of}
use Rattle.messages.specs.Status.{call_bit}
use Rattle.replies.specs.Messages.{notify_made_bytes}
use Rattle.table.specs.Table.{Table}
use Rattle.table.specs.Total.{slots, total_of}
use Rattle.table.specs.Word.{is_used}
use Rattle.table.specs.Lists.{Terms, roster, Ids, Entry, call_at, entries, Held, held}
use Rattle.table.specs.Rules.{rules_hold}
use Rattle.table.specs.Roster.{roster_number, customers_in, total_in, records_in, roster_answer, table_for}
use Rattle.spec_changes.specs.Shape.{Shape}
use Rattle.spec_changes.specs.Calls.{is_call, slot_of, refreshed_at, identifier_taken}
use Rattle.spec_changes.specs.Connections.{call_missing, is_under}
use Rattle.spec_changes.specs.Expiry.{Closing, is_idle}
use Rattle.spec_changes.specs.Last.{none, is_kept, last_of, last_kept}
use Rattle.answers.specs.Answers.{answer_number, is, sends_notify}
use Rattle.spec_calls.specs.Late.{is_behind, keeps}
use Rattle.spec_calls.specs.Form.{sound, form_of}
use Rattle.spec_calls.specs.CallRules.{nameless, is_made_by, is_named_by, is_open, is_retry}
use Rattle.spec_calls.specs.Handling.{own_id, notify_for, reply_after}
use Rattle.spec_promises.specs.Ledger.{Fed, feed, dropped, ledger, last_from, last_in}
use Rattle.spec_promises.specs.Connections.{connections_after, is_held, is_torn_down, is_set_up}
use Rattle.spec_promises.specs.Promises.{Input, handled_by, fed, table_then, at_once, table_found, AtEveryStep, same_closing, Promised, Agrees, Remembers, Unchanged, Cause}

-- ---- the runs that claims are about

-- from the table of every byte string that the roster reader answers 0, over every list of messages and reply buffers
abbrev pub FromEveryRoster : (List ℕ → Table → List Fed → Input → Type 0) → Type 0
FromEveryRoster P = (s : List ℕ) → Bytes s → roster_number (roster_answer s) ≡ 0 → (xs : List Input) → AtEveryStep (P s) (table_for (roster_answer s) s) [] xs

-- from any table that agrees with a ledger's entries at the start and keeps no MESSAGE_ID
abbrev pub FromEveryAgreement : (Table → List Entry → Table → List Fed → Input → Type 0) → Type 0
FromEveryAgreement P = (t : Table) (start : List Entry) → Agrees t start → Remembers t (last_in []) → (xs : List Input) → AtEveryStep (P t start) t [] xs

-- one message, from any table that agrees with a ledger; such a table stands at every step (`AgreesThroughout`)
abbrev pub AtOneMessage : (Table → List Entry → Input → Type 0) → Type 0
AtOneMessage P = (t : Table) (l : List Entry) → Agrees t l → (x : Input) → P t l x

-- ---- demand 3

-- the ledger's promises (01, The ledger behind demand 3), over the total of the roster (02, A11); `Promised` has them one
-- by one
abbrev pub Demand3 : Type 0
Demand3 = FromEveryRoster (λ s. Promised (total_in s) (records_in s (customers_in s)) [])

abbrev pub Demand3From : Type 0
Demand3From = FromEveryAgreement (λ t start. Promised (total_of t) (roster t) start)

-- what is claimed of one message from a table that agrees holds all along a run
abbrev pub AgreesThroughout : Type 0
AgreesThroughout = FromEveryRoster (λ s t h x. Agrees t (ledger (total_in s) [] h))

abbrev pub AgreesFrom : Type 0
AgreesFrom = FromEveryAgreement (λ first start t h x. Agrees t (ledger (total_of first) start h))

-- what is kept of a sender is what messages and answers say (02, A8), all along a run: a node that keeps a Path's
-- MESSAGE_ID, or one in another customer's record, is none
abbrev pub LastAgrees : Type 0
LastAgrees = FromEveryRoster (λ s t h x. Remembers t (last_in h))

abbrev pub LastAgreesFrom : Type 0
LastAgreesFrom = FromEveryAgreement (λ first start t h x. Remembers t (last_in h))

-- so that a message has a fault by the list where it has one by the table, and the same
abbrev pub FormSame : Type 0
FormSame = (t : Table) (h : List Fed) → Remembers t (last_in h) → (s : List ℕ) (room : ℕ) → form_of (roster t) (last_of t) s room ≡ form_of (roster t) (last_in h) s room

-- any table, any message: the roster's form stays, and with it the total. A node that lets a customer of form 1 have what
-- only form 2 has room for, once some message has come, is none
abbrev pub FormStays : Type 0
FormStays = (t : Table) (x : Input) → (table_then t x).form ≡ t.form

-- the table rules hold after every message: a node that keeps two calls of one ID, or a connection twice, is none
abbrev pub RulesAfter : Type 0
RulesAfter = AtOneMessage (λ t l x. rules_hold (table_then t x) ≡ true)

-- ---- which call a lit path belongs to

-- a connection is held after the next message as before, under the same Call ID, unless it is the one that a PathTear
-- answered 25 names: no close, no retry and no refusal loses it or moves it to another call
abbrev pub ConnectionStays : Type 0
ConnectionStays = AtOneMessage (λ t l x. (y : Held) → is_held t y ≡ true → is_torn_down (fed t x) y ≡ false → is_held (table_then t x) y ≡ true)

-- a connection that a PathTear answered 25 names is held no longer, under any Call ID: a node that answers 25 and keeps
-- it is none
abbrev pub ConnectionGoes : Type 0
ConnectionGoes = AtOneMessage (λ t l x. (y : Held) → is_torn_down (fed t x) y ≡ true → is_held (table_then t x) y ≡ false)

-- what is held and was not before is the connection that a Path answered 23 names, with its Call ID: a node that lights
-- a path under another call is none
abbrev pub ConnectionComes : Type 0
ConnectionComes = AtOneMessage (λ t l x. (y : Held) → is_held t y ≡ false → is_held (table_then t x) y ≡ true → is_set_up (fed t x) y ≡ true)

-- over whole lists: the connections held are those that were added, each under the Call ID that its Path had, until the
-- 25 that removes it
abbrev pub ConnectionsThroughout : Type 0
ConnectionsThroughout = FromEveryRoster (λ s t h x. (p : Held → Bool) → count_if p (held t) ≡ count_if p (connections_after [] h))

abbrev pub ConnectionsFrom : Type 0
ConnectionsFrom = FromEveryAgreement (λ first start t h x. (p : Held → Bool) → count_if p (held t) ≡ count_if p (connections_after (held first) h))

-- no table holds a connection with a Call ID, 0 excepted, whose pair has no open call of that ID. This holds of every
-- table, by its layout alone: what stands under a call has no Call ID of its own. What a node could break is above
abbrev pub ConnectionHasCall : Type 0
ConnectionHasCall = (t : Table) → has (call_missing (entries t)) (held t) ≡ false

-- a call with connections is open after the next message, whatever it says, and its connections stay under it, but for
-- the one that a PathTear answered 25 names
abbrev pub BusyCallStays : Type 0
BusyCallStays = AtOneMessage (λ t l x. (c : Ids) → is_open (entries t) c ≡ true → has (is_under c) (held t) ≡ true
    → (is_open (entries (table_then t x)) c ≡ true)
    × ((y : Held) → is_under c y ≡ true → is_held t y ≡ true → is_torn_down (fed t x) y ≡ false → is_held (table_then t x) y ≡ true))

-- ---- calls that nobody refreshes (02, A7): can a call vanish?

-- a call that an answer lists as closed was there, in the slot and of the customer listed; it had no connections, and no
-- refresh for five times the period, by the node's time as raised. A node that closes a call under a connection, or too
-- early, or by the caller's clock where that has gone back, is none
pub record Lapsed (t : Table) (x : Input) (c : Closing) : Type 0 where
  pub inside : c.slot < slots
  pub used : is_used t.occupied c.slot ≡ true
  pub address : (call_at t c.slot).sender ≡ c.address
  pub idle : is_idle (call_at t c.slot) ≡ true
  pub long : 5 * x.period ≤ max t.time x.time - (call_at t c.slot).refreshed

abbrev pub ExpiredIdle : Type 0
ExpiredIdle = (t : Table) (x : Input) (c : Closing) → has (same_closing c) (fed t x).closings ≡ true → Lapsed t x c

-- every such call is listed and closed, where the message is not refused 1 or 2 and the period is not 0: a node that keeps
-- a dead call, or closes it without saying so, is none
abbrev pub ExpiredAll : Type 0
ExpiredAll = AtOneMessage (λ t l x. (c : Closing) → at_once (fed t x).answer ≡ false → 0 < x.period → Lapsed t x c
    → (has (same_closing c) (fed t x).closings ≡ true) × (is_used (table_found t x).occupied c.slot ≡ false))

-- any table: a period of 0 closes none
abbrev pub Period0 : Type 0
Period0 = (t : Table) (x : Input) → x.period ≡ 0 → (fed t x).closings ≡ []

-- any table: 1 and 2 leave the time as it is; every other message raises it to the caller's, and none lowers it
abbrev pub TimeRises : Type 0
TimeRises = (t : Table) (x : Input) → (table_then t x).time ≡ cond (at_once (fed t x).answer) t.time (max t.time x.time)

-- ---- retries and refusals

-- a 21 sets the refresh of the call that the setup is for to the node's time (02, A7), takes the next own identifier, and
-- keeps the setup's MESSAGE_ID (02, A8). All else is as it was found: no second copy, no call lost
abbrev pub Refreshed : Table → Input → CallRequest → Type 0
Refreshed t x q =
    table_then t x
    ≡ last_kept (identifier_taken (refreshed_at (table_found t x) (slot_of (table_found t x) (is_named_by x.message q)))) q.sender q.sequence

-- a setup that repeats a call that is open after the closings, by its IDs or, without names, by its two numbers, is
-- answered 21. A node that opens it a second time, or lets a call go that is asked for in time, is none
abbrev pub RetryIs21 : Type 0
RetryIs21 = AtOneMessage (λ t l x. (q : CallRequest) → form_of (roster t) (last_of t) x.message (length x.buffer) ≡ sound (Open q)
    → is_retry (dropped (fed t x).closings l) x.message q ≡ true → (answer_number (fed t x).answer ≡ 21) × Refreshed t x q)

-- ---- calls that the node made (02, A6)

-- the ledger has a call with these IDs that was made for a request's pair and two numbers
abbrev pub is_made_with : CallRequest → Ids → Entry → Bool
is_made_with q c e = is_made_by q e && is_call c e

-- the reply is, byte for byte, the Notify with the answer whose SESSION and SESSION_ATTRIBUTE carry these IDs
abbrev pub RepliesWith : Table → Input → CallRequest → Ids → Type 0
RepliesWith t x q c =
    reply_after (table_found t x) x.message (length x.buffer) (fed t x).answer
    ≡ notify_made_bytes x.message (notify_for t.address (own_id t) q call_bit (fed t x).answer) c.short c.long

-- a setup without names that is answered 20 is entered so, with the IDs that its reply carries. Not so of a node that makes
-- one name and keeps another, forgets the numbers, or sends the empty name back
abbrev pub MadeEntered : Type 0
MadeEntered = AtOneMessage (λ t l x. (q : CallRequest) → form_of (roster t) (last_of t) x.message (length x.buffer) ≡ sound (Open q) → nameless q ≡ true
    → is 20 (fed t x).answer ≡ true
    → (c : Ids) × (has (is_made_with q c) (feed (total_of t) (fed t x) (dropped (fed t x).closings l)) ≡ true) × RepliesWith t x q c)

-- as long as the ledger has it, whatever came in between, a setup without names of that pair and these numbers is a retry:
-- it is answered 21, its reply carries the same IDs, and nothing but its call's refresh changes. Not so of a node that
-- opens the call a second time, or whose reply to the retry has another name, or the empty one
abbrev pub MadeRetryIs21 : Type 0
MadeRetryIs21 = AtOneMessage (λ t l x. (q : CallRequest) (c : Ids) → form_of (roster t) (last_of t) x.message (length x.buffer) ≡ sound (Open q) → nameless q ≡ true
    → has (is_made_with q c) (dropped (fed t x).closings l) ≡ true
    → (answer_number (fed t x).answer ≡ 21) × RepliesWith t x q c × Refreshed t x q)

-- a setup that is refused had to be: each refusal has its cause in the ledger (01, Every answer)
abbrev pub SetupCause : Type 0
SetupCause = AtOneMessage (λ t l x. (q : CallRequest) → form_of (roster t) (last_of t) x.message (length x.buffer) ≡ sound (Open q)
    → Cause (total_of t) (roster t) (dropped (fed t x).closings l) x.message q (answer_number (fed t x).answer))

-- any table, any message: after the closings only 20, 22, 23 and 25 change calls or connections, and 21 a refresh
abbrev pub RefusedUnchanged : Type 0
RefusedUnchanged = (t : Table) (x : Input)
    → is 20 (fed t x).answer ≡ false → is 21 (fed t x).answer ≡ false → is 22 (fed t x).answer ≡ false → is 23 (fed t x).answer ≡ false → is 25 (fed t x).answer ≡ false
    → Unchanged (table_found t x) (table_then t x)

-- any table, any message: where no Notify is sent, the whole table is as it was found after the closings, the next own
-- identifier too, but for 23 and 25
abbrev pub QuietUnchanged : Type 0
QuietUnchanged = (t : Table) (x : Input)
    → sends_notify (fed t x).answer ≡ false → is 23 (fed t x).answer ≡ false → is 25 (fed t x).answer ≡ false → table_then t x ≡ table_found t x

-- ---- late messages (02, A8)

-- any table: 16 leaves the table as it was found after the closings, the whole of it, and the buffer. A node that keeps a
-- late message's MESSAGE_ID, refreshes a call by it or answers it is none
abbrev pub LateUnchanged : Type 0
LateUnchanged = (t : Table) (x : Input) → is 16 (fed t x).answer ≡ true
    → (table_then t x ≡ table_found t x) × ((handled_by t x).buffer ≡ x.buffer) × ((handled_by t x).length ≡ 0)

-- a Notify of a sender that was accepted
abbrev pub is_accepted : ℕ → Fed → Bool
is_accepted sender e = keeps e.answer && is_kept (last_from sender e.message)

-- an open was answered 20 or 21, no Notify of its sender was accepted since, and now a close of that sender comes, of the
-- same epoch and behind the open; it has no other fault
pub record Overtaken (r : List Terms) (h : List Fed) (x : Input) (q c : CallRequest) : Type 0 where
  pub since : List Fed
  pub setup : Fed
  pub before : List Fed
  pub headers : ℕ
  pub fed_then : h ≡ since ++ setup ∷ before
  pub opening : read_of setup.message ≡ received (Open q) headers
  pub taken : (is 20 setup.answer || is 21 setup.answer) ≡ true
  pub quiet : has (is_accepted q.sender) since ≡ false
  pub closing : form_of r (λ sender. none) x.message (length x.buffer) ≡ sound (Close c)
  pub sender : c.sender ≡ q.sender
  pub epoch : c.sequence.epoch ≡ q.sequence.epoch
  pub behind : is_behind q.sequence.identifier c.sequence.identifier ≡ true

-- it is answered 16, and takes out no call: those that nobody refreshed are gone before any message. A node in which an
-- overtaken old close undoes a newer open is none
abbrev pub OvertakenClose : Type 0
OvertakenClose = FromEveryRoster (λ s t h x. (q c : CallRequest) → Overtaken (roster t) h x q c
    → (answer_number (fed t x).answer ≡ 16) × (entries (table_then t x) ≡ entries (table_found t x)))

-- ---- the reply buffer

-- the buffer afterwards: the whole reply, and behind it the old bytes
pub record InFront (reply before after : List ℕ) : Type 0 where
  pub front : take (length reply) after ≡ reply
  pub behind : drop (length reply) after ≡ drop (length reply) before
  pub long : length after ≡ length before

-- any table of words, any message and buffer: the buffer holds the complete reply in front and its old bytes behind it;
-- where no reply is sent, exactly its old bytes
pub record BufferHolds (t : Table) (x : Input) : Type 0 where
  pub reply : InFront (reply_after (table_found t x) x.message (length x.buffer) (fed t x).answer) x.buffer (handled_by t x).buffer
  pub none : (handled_by t x).length ≡ 0 → (handled_by t x).buffer ≡ x.buffer

abbrev pub BufferAfter : Type 0
BufferAfter = (t : Table) → Shape t → (x : Input) → BufferHolds t x

-- 01, Message layout: the words of every reply add up to FFFF. Every table that words are has numbers of 32 bits, and names
-- of bytes
abbrev pub ReplyAddsUp : Type 0
ReplyAddsUp = (t : Table) → Shape t → (x : Input) → t.address < 0x100000000 → t.next < 0x100000000 → ((i : ℕ) → Bytes (call_at t i).name)
    → 0 < (handled_by t x).length
    → words_sum (take (handled_by t x).length (handled_by t x).buffer) ≡ 65535
