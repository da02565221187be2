-- Padding is no part of a name (02, A1): rows on bytes, each on the table that the row before left.
use Rattle.std.specs.Prelude.{ℕ, ◌≡◌, List, [], ◌∷◌, map, Bool, true, false, replicate}
use Rattle.table.specs.Table.{Table}
use Rattle.table.specs.Roster.{roster_answer, table_for}
use Rattle.answers.specs.Answers.{answer_number}
use Rattle.spec_calls.specs.Handling.{Handled}
use Rattle.starred_cases.specs.Run.{StepTo, at_rest}
use Rattle.starred_cases.specs.TwoCustomers.{unchanged, buffer, notify_with, X}

-- an answer, the reply's length, and whether calls and connections are as they were
pub record PaddedResult : Type 0 where
  pub answer : ℕ
  pub length : ℕ
  pub equal : Bool

pub record PaddedCase : Type 0 where
  pub message : List ℕ
  pub result : PaddedResult

abbrev result_of : Table → Handled → PaddedResult
result_of t h = record { answer = answer_number h.answer; length = h.length; equal = unchanged t h.table }

abbrev pub then_rest : Table → Handled → (Table → List PaddedResult) → List PaddedResult
then_rest t h rest = result_of t h ∷ rest h.table

abbrev pub results_from : StepTo Handled → Table → List PaddedCase → List PaddedResult
results_from step t [] = []
results_from step t (c ∷ rest) = then_rest t (step t c.message buffer) (λ u. results_from step u rest)

-- X has guarantee 1 and limit 2
abbrev pub roster_bytes : List ℕ
roster_bytes = 0x11 ∷ 0x0a ∷ 0x00 ∷ 0x00 ∷ 0x02 ∷ 0x00 ∷ 0x00 ∷ 0x07 ∷ 0x0a ∷ 0x00 ∷ 0x00 ∷ 0x01 ∷ 0x02 ∷ 0x08 ∷ []

-- X's request by its short ID, its Name Length and the bytes behind that
abbrev asked : ℕ → ℕ → List ℕ → List ℕ
asked short size bytes = notify_with 0x80000008 X short (7 ∷ 7 ∷ 0 ∷ size ∷ bytes)

abbrev close : ℕ → ℕ → List ℕ → List ℕ
close short size bytes = notify_with 0x80000009 X short (7 ∷ 7 ∷ 0 ∷ size ∷ bytes)

abbrev pub row : List ℕ → ℕ → ℕ → Bool → PaddedCase
row message answer length equal = record { message = message; result = record { answer = answer; length = length; equal = equal } }

unfoldable pub padded_cases : List PaddedCase
padded_cases =
    -- "a"; "a" and four zeros, all counted: the same call, and the reply has the object as it came
    row (asked 1 1 (0x61 ∷ 0 ∷ 0 ∷ 0 ∷ [])) 20 92 false
    ∷ row (asked 1 5 (0x61 ∷ 0 ∷ 0 ∷ 0 ∷ 0 ∷ 0 ∷ 0 ∷ 0 ∷ [])) 21 96 true
    -- a zero inside is part of the name
    ∷ row (asked 2 3 (0x61 ∷ 0 ∷ 0x62 ∷ 0 ∷ [])) 20 92 false
    -- four zeros are no name; the 32 stays on the length as received
    ∷ row (asked 3 4 (0 ∷ 0 ∷ 0 ∷ 0 ∷ [])) 13 0 true
    ∷ row (close 1 4 (0 ∷ 0 ∷ 0 ∷ 0 ∷ [])) 13 0 true
    ∷ row (asked 3 33 (0x61 ∷ 0x62 ∷ replicate 34 0)) 13 0 true
    -- "a" and one zero, counted: the call is closed
    ∷ row (close 1 2 (0x61 ∷ 0 ∷ 0 ∷ 0 ∷ [])) 22 92 false
    ∷ []

abbrev pub padded_results : StepTo Handled → List PaddedResult
padded_results step = results_from step (table_for (roster_answer roster_bytes) roster_bytes) padded_cases

-- the definitions give what each row says
abbrev pub PaddedHold : Type 0
PaddedHold = padded_results at_rest ≡ map (λ c. c.result) padded_cases
