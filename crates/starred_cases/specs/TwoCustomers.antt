-- The starred cases of 01, "Two customers, one table", as one table of rows on the bytes of rosters and messages.
use Rattle.std.specs.Prelude.{ℕ, zero, suc, ◌+◌, ◌*◌, ◌≡◌, List, [], ◌∷◌, ◌++◌, map, Bool, true, false, ◌&&◌, length, replicate}
use Rattle.numbers.specs.BigEndian.{bytes16, bytes32}
use Rattle.lists.specs.Below.{below, every_below}
use Rattle.reply_objects.specs.Buffer.{least_buffer}
use Rattle.table.specs.Table.{Call, Table}
use Rattle.table.specs.Total.{slots}
use Rattle.table.specs.Zeros.{empty_table}
use Rattle.table.specs.Lists.{customer_at, roster, call_at, entries, Four, call_four, customer_four, place_at}
use Rattle.table.specs.Share.{S}
use Rattle.table.specs.Rules.{same_bytes}
use Rattle.table.specs.Roster.{RosterAnswer, roster_number, roster_answer, table_for}
use Rattle.answers.specs.Answers.{answer_number}
use Rattle.spec_calls.specs.Handling.{Handled}
use Rattle.starred_cases.specs.Run.{StepTo, table_through, at_rest}

-- ---- rows

-- what holds after a row: the answer's number, S, the number of open calls, and whether calls and connections are as
-- they were
pub record StarredResult : Type 0 where
  pub answer : ℕ
  pub sum : ℕ
  pub calls : ℕ
  pub equal : Bool

-- a roster starts anew; or, on the table that the row before left, some messages are handled and then one is looked at
pub data StarredCase : Type 0 where
  begin : List ℕ → StarredResult → StarredCase
  ask : List (List ℕ) → List ℕ → StarredResult → StarredCase

abbrev pub expected : StarredCase → StarredResult
expected (begin bytes outcome) = outcome
expected (ask before message outcome) = outcome

-- ---- calls and connections are as they were

-- what four places say, as numbers
abbrev four_numbers : Four → List ℕ
four_numbers f = below (λ j. f.endpoint j ∷ (place_at f j).taken ∷ (place_at f j).tunnel ∷ (place_at f j).extended ∷ (place_at f j).lsp ∷ []) 4

-- what a slot says, but for the last refresh (02, A7: "the refresh a 21 sets left out")
abbrev call_numbers : Call → List ℕ
call_numbers c = c.endpoint ∷ c.sender ∷ c.epoch ∷ c.identifier ∷ c.id ∷ c.made ∷ c.size ∷ (c.name ++ four_numbers (call_four c))

abbrev pub unchanged : Table → Table → Bool
unchanged t u =
    same_bytes t.occupied u.occupied
    && every_below (λ i. same_bytes (call_numbers (call_at t i)) (call_numbers (call_at u i))) slots
    && every_below (λ k. same_bytes (four_numbers (customer_four (customer_at t k))) (four_numbers (customer_four (customer_at u k)))) 8

-- ---- the run

abbrev pub buffer : List ℕ
buffer = replicate least_buffer 0

abbrev pub outcome_of : ℕ → Table → Table → StarredResult
outcome_of answer before after = record {
  answer = answer;
  sum = S (roster after) (entries after);
  calls = length (entries after);
  equal = unchanged before after;
}

-- the outcome of a row, and what the rows behind it come to
abbrev pub then_rows : Table → ℕ → Table → (Table → List StarredResult) → List StarredResult
then_rows before answer after rest = outcome_of answer before after ∷ rest after

abbrev begun : Table → RosterAnswer → List ℕ → (Table → List StarredResult) → List StarredResult
begun t answer bytes rest = then_rows t (roster_number answer) (table_for answer bytes) rest

abbrev pub asked : Table → Handled → (Table → List StarredResult) → List StarredResult
asked t h rest = then_rows t (answer_number h.answer) h.table rest

abbrev pub asked_on : StepTo Handled → Table → List ℕ → (Table → List StarredResult) → List StarredResult
asked_on step t message rest = asked t (step t message buffer) rest

abbrev pub outcomes : StepTo Handled → Table → List StarredCase → List StarredResult
outcomes step t [] = []
outcomes step t (begin bytes outcome ∷ rows) = begun t (roster_answer bytes) bytes (λ u. outcomes step u rows)
outcomes step t (ask before message outcome ∷ rows) = asked_on step (table_through step buffer t before) message (λ u. outcomes step u rows)

-- ---- messages (01, Message layout), with no checksum sent

abbrev pub object : ℕ → ℕ → List ℕ → List ℕ
object class ctype body = bytes16 (4 + length body) ++ class ∷ ctype ∷ body

abbrev pub message : ℕ → List ℕ → List ℕ
message kind objects = 0x10 ∷ kind ∷ 0 ∷ 0 ∷ 255 ∷ 0 ∷ bytes16 (8 + length objects) ++ objects

abbrev pub session : ℕ → ℕ → List ℕ
session call tunnel = object 1 7 (bytes32 0x0a000002 ++ bytes16 call ++ bytes16 tunnel ++ bytes32 0x0a000002)

abbrev pub template : ℕ → ℕ → List ℕ
template sender lsp = object 11 7 (bytes32 sender ++ bytes16 0 ++ bytes16 lsp)

-- a MESSAGE_ID by its epoch and identifier
abbrev pub message_id : ℕ → ℕ → List ℕ
message_id epoch identifier = object 23 1 (bytes32 epoch ++ bytes32 identifier)

-- a Notify with this MESSAGE_ID, these ADMIN_STATUS bits and this body of the SESSION_ATTRIBUTE
abbrev pub notify_sent : ℕ → ℕ → ℕ → ℕ → ℕ → List ℕ → List ℕ
notify_sent epoch identifier status sender call attribute =
    message 21
    (session call 0 ++ object 6 1 (replicate 8 0) ++ template sender 0 ++ message_id epoch identifier
    ++ object 196 1 (bytes32 status) ++ object 207 7 attribute)

-- in epoch 1
abbrev pub notify_numbered : ℕ → ℕ → ℕ → ℕ → List ℕ → List ℕ
notify_numbered = notify_sent 1

abbrev pub notify_with : ℕ → ℕ → ℕ → List ℕ → List ℕ
notify_with status sender call attribute = notify_numbered 7 status sender call attribute

-- with a name of one byte
abbrev notify : ℕ → ℕ → ℕ → ℕ → List ℕ
notify status sender call name = notify_with status sender call (7 ∷ 7 ∷ 0 ∷ 1 ∷ name ∷ 0 ∷ 0 ∷ 0 ∷ [])

abbrev pub setup : ℕ → ℕ → ℕ → List ℕ
setup = notify 0x80000008

abbrev pub close : ℕ → ℕ → ℕ → List ℕ
close = notify 0x80000009

abbrev pub path : ℕ → ℕ → List ℕ
path sender call = message 1 (session call 1 ++ template sender 1)

abbrev pub path_tear : ℕ → ℕ → List ℕ
path_tear sender call = message 5 (session call 1 ++ template sender 1)

-- ---- the two customers

abbrev pub X : ℕ
X = 0x0a000001

abbrev pub Y : ℕ
Y = 0x0a000003

-- a customer's record: address, guarantee 7 bits, limit 7 bits, 2 spare bits
abbrev customer : ℕ → ℕ → ℕ → List ℕ
customer address guarantee limit = bytes32 address ++ bytes16 (guarantee * 512 + limit * 4)

abbrev pub roster_of : ℕ → ℕ → ℕ → ℕ → List ℕ
roster_of guarantee_x limit_x guarantee_y limit_y =
    (0x12 ∷ 0x0a ∷ 0 ∷ 0 ∷ 2 ∷ 0 ∷ 0 ∷ 7 ∷ []) ++ customer X guarantee_x limit_x ++ customer Y guarantee_y limit_y

-- Y's calls with short IDs n down to 1
abbrev pub calls_of_y : ℕ → List (List ℕ)
calls_of_y zero = []
calls_of_y (suc n) = setup Y (suc n) (suc n) ∷ calls_of_y n

abbrev pub after : ℕ → ℕ → ℕ → Bool → StarredResult
after answer sum calls equal = record { answer = answer; sum = sum; calls = calls; equal = equal }

unfoldable pub cases : List StarredCase
cases =
    -- fresh table: S is 63
    begin (roster_of 1 2 62 64) (after 0 63 0 true)
    -- X's first call: 20, S 63; that setup again: 21, calls and connections equal; X's second: 20, S 64; X's third: 34
    ∷ ask [] (setup X 1 1) (after 20 63 1 false)
    ∷ ask [] (setup X 1 1) (after 21 63 1 true)
    ∷ ask [] (setup X 2 2) (after 20 64 2 false)
    ∷ ask [] (setup X 3 3) (after 34 64 2 true)
    -- Y with 62 calls and S 64 asks again: 34; X closes one, Y asks: 20
    ∷ ask (calls_of_y 62) (setup Y 63 63) (after 34 64 64 true)
    ∷ ask (close X 2 2 ∷ []) (setup Y 63 63) (after 20 64 64 false)
    -- close under a connection: 32; PathTear with Call ID 9 for a connection under 5: 25; then close: 22, and close
    -- once more: 33
    ∷ begin (roster_of 1 2 62 64) (after 0 63 0 false)
    ∷ ask (setup X 5 5 ∷ path X 5 ∷ []) (close X 5 5) (after 32 63 1 true)
    ∷ ask [] (path_tear X 9) (after 25 63 1 false)
    ∷ ask [] (close X 5 5) (after 22 63 0 false)
    ∷ ask [] (close X 5 5) (after 33 63 0 true)
    -- long ID of one call with short ID of another: 31
    ∷ ask (setup Y 5 5 ∷ setup Y 6 6 ∷ []) (setup Y 6 5) (after 31 63 2 true)
    -- both limits 64: guarantees 62 + 2 accepted; 62 + 3: 46
    ∷ begin (roster_of 2 64 62 64) (after 0 64 0 false)
    ∷ begin (roster_of 3 64 62 64) (after 46 0 0 true)
    ∷ []

-- the definitions give what 01 says of each row
abbrev pub CasesHold : Type 0
CasesHold = outcomes at_rest empty_table cases ≡ map expected cases
