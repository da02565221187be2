-- Calls that nobody refreshes (02, A7): rows on bytes with the caller's time and period, each on the table that the row
-- before left. The period is 10 but where a row says so, so that a call goes 50 seconds after its last 20 or 21.
use Rattle.std.specs.Prelude.{ℕ, ◌≡◌, List, [], ◌∷◌, map, length, replicate}
use Rattle.table.specs.Table.{Table}
use Rattle.table.specs.Lists.{call_at, entries}
use Rattle.table.specs.Roster.{roster_answer, table_for}
use Rattle.spec_changes.specs.Expiry.{closing_words}
use Rattle.answers.specs.Answers.{answer_number}
use Rattle.spec_calls.specs.Handling.{Handled, handled}
use Rattle.starred_cases.specs.Run.{StepTo}
use Rattle.starred_cases.specs.TwoCustomers.{setup, path, path_tear, X, roster_of}

-- the answer, what it lists (slot and address in turn), the open calls, the node's time, and the refreshes of slots 0 and 1
pub record LapseResult : Type 0 where
  pub answer : ℕ
  pub closings : List ℕ
  pub calls : ℕ
  pub time : ℕ
  pub first : ℕ
  pub second : ℕ

pub record LapseCase : Type 0 where
  pub message : List ℕ
  pub room : ℕ
  pub time : ℕ
  pub period : ℕ
  pub result : LapseResult

abbrev result_of : Handled → LapseResult
result_of h = record {
  answer = answer_number h.answer;
  closings = closing_words h.closings;
  calls = length (entries h.table);
  time = h.table.time;
  first = (call_at h.table 0).refreshed;
  second = (call_at h.table 1).refreshed;
}

abbrev pub then_lapse : Handled → (Table → List LapseResult) → List LapseResult
then_lapse h rest = result_of h ∷ rest h.table

-- what handles a message at a time, with a period
abbrev pub StepAt : Type 0 → Type 0
StepAt A = ℕ → ℕ → StepTo A

abbrev pub lapses_from : StepAt Handled → Table → List LapseCase → List LapseResult
lapses_from step t [] = []
lapses_from step t (c ∷ rest) = then_lapse (step c.time c.period t c.message (replicate c.room 0)) (λ u. lapses_from step u rest)

-- X has guarantee 2 and limit 4
abbrev pub lapse_roster : List ℕ
lapse_roster = roster_of 2 4 60 64

abbrev pub row : ℕ → ℕ → ℕ → List ℕ → ℕ → List ℕ → ℕ → ℕ → ℕ → ℕ → LapseCase
row at period room message answer closings calls time first second = record {
  message = message;
  room = room;
  time = at;
  period = period;
  result = record { answer = answer; closings = closings; calls = calls; time = time; first = first; second = second };
}

unfoldable pub lapse_cases : List LapseCase
lapse_cases =
    -- opened at 100, and another at 110; at 149 nothing goes, and 21 refreshes the first
    row 100 10 128 (setup X 1 1) 20 [] 1 100 100 0
    ∷ row 110 10 128 (setup X 2 2) 20 [] 2 110 100 110
    ∷ row 149 10 128 (setup X 1 1) 21 [] 2 149 149 110
    -- a message that is refused 3: at 159 nothing goes, at 160 the second does, listed by its slot; its slot holds zeros
    ∷ row 159 10 128 [] 3 [] 2 159 149 110
    ∷ row 160 10 128 [] 3 (1 ∷ X ∷ []) 1 160 149 0
    -- a buffer of 127 bytes at 1,000: 2, nothing goes, and the time stays
    ∷ row 1000 10 127 (setup X 1 1) 2 [] 1 160 149 0
    -- a connection keeps its call, however old, and refreshes nothing; time 5 does not go back
    ∷ row 170 10 128 (path X 1) 23 [] 1 170 149 0
    ∷ row 9999 10 128 [] 3 [] 1 9999 149 0
    ∷ row 5 10 128 [] 3 [] 1 9999 149 0
    -- a retry at the very end of five periods finds its call closed: it is listed, and opened anew
    ∷ row 10000 10 128 (setup X 2 2) 20 [] 2 10000 149 10000
    ∷ row 10050 10 128 (setup X 2 2) 20 (1 ∷ X ∷ []) 2 10050 149 10050
    -- five periods that 32 bits do not hold; a period of 0
    ∷ row 30000 0x33333334 128 [] 3 [] 2 30000 149 10050
    ∷ row 40000 0 128 [] 3 [] 2 40000 149 10050
    -- the last connection goes long after the refresh: so does the call, with the next message, before it is looked at
    ∷ row 40000 0 128 (path_tear X 1) 25 [] 2 40000 149 10050
    ∷ row 40001 10 128 (path X 1) 35 (0 ∷ X ∷ 1 ∷ X ∷ []) 0 40001 0 0
    ∷ []

abbrev pub lapse_results : StepAt Handled → List LapseResult
lapse_results step = lapses_from step (table_for (roster_answer lapse_roster) lapse_roster) lapse_cases

-- the definitions give what each row says. Not so of a node that counts from the caller's clock, takes `longer` for `or
-- longer`, lets a Path refresh a call, raises the time with a 2, or counts five periods in 32 bits
abbrev pub LapsesHold : Type 0
LapsesHold = lapse_results (λ time period t s buffer. handled t s buffer time period) ≡ map (λ c. c.result) lapse_cases
