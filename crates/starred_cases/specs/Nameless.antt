-- Calls that arrive without names (02, A6): rows on bytes, each on the table that the row before left.
use Rattle.std.specs.Prelude.{ℕ, ◌+◌, ◌≡◌, List, [], ◌∷◌, ◌++◌, map, true, false}
use Rattle.table.specs.Roster.{roster_answer, table_for}
use Rattle.spec_calls.specs.Handling.{Handled}
use Rattle.starred_cases.specs.Run.{StepTo, at_rest}
use Rattle.starred_cases.specs.TwoCustomers.{notify_numbered, X}
use Rattle.starred_cases.specs.PaddedNames.{PaddedResult, PaddedCase, row, results_from}

-- X has guarantee 1 and limit 3
abbrev pub limit_of3 : List ℕ
limit_of3 = 0x11 ∷ 0x0a ∷ 0x00 ∷ 0x00 ∷ 0x02 ∷ 0x00 ∷ 0x00 ∷ 0x07 ∷ 0x0a ∷ 0x00 ∷ 0x00 ∷ 0x01 ∷ 0x02 ∷ 0x0c ∷ []

-- X's request by its MESSAGE_ID's identifier, its short ID, its Name Length and the bytes behind that
abbrev asks : ℕ → ℕ → ℕ → List ℕ → List ℕ
asks identifier short size bytes = notify_numbered identifier 0x80000008 X short (7 ∷ 7 ∷ 0 ∷ size ∷ bytes)

abbrev closes : ℕ → ℕ → ℕ → List ℕ → List ℕ
closes identifier short size bytes = notify_numbered identifier 0x80000009 X short (7 ∷ 7 ∷ 0 ∷ size ∷ bytes)

-- the name made of a number below ten: sender 0a000001, end point 0a000002
abbrev made : ℕ → List ℕ
made n =
    (0x30 ∷ 0x61 ∷ 0x30 ∷ 0x30 ∷ 0x30 ∷ 0x30 ∷ 0x30 ∷ 0x31 ∷ [])
    ++ (0x30 ∷ 0x61 ∷ 0x30 ∷ 0x30 ∷ 0x30 ∷ 0x30 ∷ 0x30 ∷ 0x32 ∷ [])
    ++ (0x30 ∷ 0x30 ∷ 0x30 ∷ (0x30 + n) ∷ [])

unfoldable pub nameless_cases : List PaddedCase
nameless_cases =
    -- neither ID: both are made; the retry finds the call, and so does a setup with the made IDs
    row (asks 7 0 0 []) 20 108 false
    ∷ row (asks 7 0 0 []) 21 108 true
    ∷ row (asks 7 1 20 (made 1)) 21 108 true
    -- they close it, and the retry opens anew
    ∷ row (closes 7 1 20 (made 1)) 22 108 false
    ∷ row (asks 7 0 0 []) 20 108 false
    ∷ row (closes 8 1 20 (made 1)) 22 108 false
    -- a call of short ID 5 under the name made of 1 is in the way: IDs 2 and 3
    ∷ row (asks 9 5 20 (made 1)) 20 108 false
    ∷ row (asks 10 0 0 []) 20 108 false
    ∷ row (asks 10 2 20 (made 2)) 21 108 true
    ∷ row (asks 11 0 0 []) 20 108 false
    ∷ row (asks 11 3 20 (made 3)) 21 108 true
    -- at the limit: a retry is not refused; a new one is, with the empty name as received, and an older retry is late then
    ∷ row (asks 11 0 0 []) 21 108 true
    ∷ row (asks 12 0 0 []) 34 88 true
    ∷ row (asks 10 0 0 []) 16 0 true
    -- a close without names; a name alone; zeros are no name
    ∷ row (closes 10 0 0 []) 13 0 true
    ∷ row (asks 13 0 1 (0x61 ∷ 0 ∷ 0 ∷ 0 ∷ [])) 13 0 true
    ∷ row (asks 13 0 4 (0 ∷ 0 ∷ 0 ∷ 0 ∷ [])) 13 0 true
    ∷ []

abbrev pub nameless_results : StepTo Handled → List PaddedResult
nameless_results step = results_from step (table_for (roster_answer limit_of3) limit_of3) nameless_cases

-- the definitions give what each row says
abbrev pub NamelessHold : Type 0
NamelessHold = nameless_results at_rest ≡ map (λ c. c.result) nameless_cases
