-- Late messages (02, A8): rows on bytes, each on the table that the row before left.
use Rattle.std.specs.Prelude.{ℕ, ◌≡◌, List, [], ◌∷◌, ◌++◌, map, length}
use Rattle.table.specs.Table.{Customer}
use Rattle.table.specs.Lists.{customer_at, entries}
use Rattle.table.specs.Roster.{roster_answer, table_for}
use Rattle.answers.specs.Answers.{answer_number}
use Rattle.spec_calls.specs.Handling.{Handled}
use Rattle.starred_cases.specs.Run.{StepTo, at_rest, results_through}
use Rattle.starred_cases.specs.TwoCustomers.{message, session, template, message_id, notify_sent, path_tear, X, Y, roster_of, buffer}

-- the answer, the open calls, and what is kept of X and of Y: mark, epoch, identifier
pub record LateResult : Type 0 where
  pub answer : ℕ
  pub calls : ℕ
  pub of_x : List ℕ
  pub of_y : List ℕ

pub record LateCase : Type 0 where
  pub message : List ℕ
  pub result : LateResult

abbrev kept_numbers : Customer → List ℕ
kept_numbers c = c.kept ∷ c.epoch ∷ c.identifier ∷ []

abbrev pub late_result_of : Handled → LateResult
late_result_of h = record {
  answer = answer_number h.answer;
  calls = length (entries h.table);
  of_x = kept_numbers (customer_at h.table 0);
  of_y = kept_numbers (customer_at h.table 1);
}

-- X has guarantee 2 and limit 4
abbrev pub late_roster : List ℕ
late_roster = roster_of 2 4 60 64

-- a request by epoch, identifier, sender, short ID and a name of one byte
abbrev opens : ℕ → ℕ → ℕ → ℕ → ℕ → List ℕ
opens epoch identifier sender call name = notify_sent epoch identifier 0x80000008 sender call (7 ∷ 7 ∷ 0 ∷ 1 ∷ name ∷ 0 ∷ 0 ∷ 0 ∷ [])

abbrev closes : ℕ → ℕ → ℕ → ℕ → ℕ → List ℕ
closes epoch identifier sender call name = notify_sent epoch identifier 0x80000009 sender call (7 ∷ 7 ∷ 0 ∷ 1 ∷ name ∷ 0 ∷ 0 ∷ 0 ∷ [])

-- X's Path under call 1 with a MESSAGE_ID of its own
abbrev path_sent : ℕ → ℕ → List ℕ
path_sent epoch identifier = message 1 (message_id epoch identifier ++ session 1 1 ++ template X 1)

abbrev pub late_row : List ℕ → ℕ → ℕ → List ℕ → List ℕ → LateCase
late_row message answer calls of_x of_y = record { message = message; result = record { answer = answer; calls = calls; of_x = of_x; of_y = of_y } }

unfoldable pub late_cases : List LateCase
late_cases =
    -- opened with 7; a close with 6 was overtaken, and the call stays open; with Call ID 0 it is 13, before 16
    late_row (opens 1 7 X 1 0x61) 20 1 (1 ∷ 1 ∷ 7 ∷ []) (0 ∷ 0 ∷ 0 ∷ [])
    ∷ late_row (closes 1 6 X 1 0x61) 16 1 (1 ∷ 1 ∷ 7 ∷ []) (0 ∷ 0 ∷ 0 ∷ [])
    ∷ late_row (closes 1 6 X 0 0x61) 13 1 (1 ∷ 1 ∷ 7 ∷ []) (0 ∷ 0 ∷ 0 ∷ [])
    -- the same open again; a setup refused 30 keeps its own, 7 + 2^31, which lies neither ahead of 7 nor behind
    ∷ late_row (opens 1 7 X 1 0x61) 21 1 (1 ∷ 1 ∷ 7 ∷ []) (0 ∷ 0 ∷ 0 ∷ [])
    ∷ late_row (opens 1 0x80000007 X 1 0x62) 30 1 (1 ∷ 1 ∷ 0x80000007 ∷ []) (0 ∷ 0 ∷ 0 ∷ [])
    ∷ late_row (opens 1 7 X 1 0x61) 21 1 (1 ∷ 1 ∷ 7 ∷ []) (0 ∷ 0 ∷ 0 ∷ [])
    -- Y's numbers are its own
    ∷ late_row (closes 1 3 Y 1 0x61) 33 1 (1 ∷ 1 ∷ 7 ∷ []) (1 ∷ 1 ∷ 3 ∷ [])
    -- a Path's MESSAGE_ID is neither compared nor kept
    ∷ late_row (path_sent 1 3) 23 1 (1 ∷ 1 ∷ 7 ∷ []) (1 ∷ 1 ∷ 3 ∷ [])
    ∷ late_row (path_sent 1 9) 24 1 (1 ∷ 1 ∷ 7 ∷ []) (1 ∷ 1 ∷ 3 ∷ [])
    -- 32 keeps one too
    ∷ late_row (closes 1 8 X 1 0x61) 32 1 (1 ∷ 1 ∷ 8 ∷ []) (1 ∷ 1 ∷ 3 ∷ [])
    ∷ late_row (path_tear X 1) 25 1 (1 ∷ 1 ∷ 8 ∷ []) (1 ∷ 1 ∷ 3 ∷ [])
    ∷ late_row (closes 1 7 X 1 0x61) 16 1 (1 ∷ 1 ∷ 8 ∷ []) (1 ∷ 1 ∷ 3 ∷ [])
    -- epoch 2 starts afresh; there 0 lies behind 1, and so does 4,294,967,295
    ∷ late_row (closes 2 1 X 9 0x61) 33 1 (1 ∷ 2 ∷ 1 ∷ []) (1 ∷ 1 ∷ 3 ∷ [])
    ∷ late_row (closes 2 0 X 1 0x61) 16 1 (1 ∷ 2 ∷ 1 ∷ []) (1 ∷ 1 ∷ 3 ∷ [])
    ∷ late_row (closes 2 0xffffffff X 1 0x61) 16 1 (1 ∷ 2 ∷ 1 ∷ []) (1 ∷ 1 ∷ 3 ∷ [])
    -- and back in epoch 1
    ∷ late_row (closes 1 0 X 1 0x61) 22 0 (1 ∷ 1 ∷ 0 ∷ []) (1 ∷ 1 ∷ 3 ∷ [])
    ∷ []

abbrev pub late_results : StepTo Handled → List LateResult
late_results step = results_through late_result_of step buffer (table_for (roster_answer late_roster) late_roster) (map (λ c. c.message) late_cases)

-- the definitions give what each row says. Not so of a node that takes 2^31 for late, compares the wrong way round, does
-- not look at the epoch or keeps one for all customers
abbrev pub LatesHold : Type 0
LatesHold = late_results at_rest ≡ map (λ c. c.result) late_cases
