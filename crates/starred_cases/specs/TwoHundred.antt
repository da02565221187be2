-- Two customers under a roster of form 2 (02, A11): its total is 200, and what form 1 refuses at S 64 it allows, in the
-- lowest free slot. Rows as in TwoCustomers.antt.
use Rattle.std.specs.Prelude.{ℕ, ◌≡◌, List, [], ◌∷◌, ◌++◌, map, true, false, ◌&&◌, eqb}
use Rattle.numbers.specs.BigEndian.{bytes32}
use Rattle.lists.specs.Count.{first_of}
use Rattle.table.specs.Table.{Table}
use Rattle.table.specs.Zeros.{empty_table}
use Rattle.table.specs.Lists.{entries}
use Rattle.table.specs.Roster.{roster_answer, table_for}
use Rattle.spec_calls.specs.Handling.{Handled}
use Rattle.starred_cases.specs.Run.{StepTo, table_through, at_rest}
use Rattle.starred_cases.specs.TwoCustomers.{StarredCase, begin, ask, expected, buffer, outcomes, setup, close, X, Y, roster_of, calls_of_y, after}

-- a customer's record: address, guarantee 8 bits, limit 8 bits
abbrev customer : ℕ → ℕ → ℕ → List ℕ
customer address guarantee limit = bytes32 address ++ guarantee ∷ limit ∷ []

abbrev roster_of2 : ℕ → ℕ → ℕ → ℕ → List ℕ
roster_of2 guarantee_x limit_x guarantee_y limit_y =
    (0x22 ∷ 0x0a ∷ 0 ∷ 0 ∷ 2 ∷ 0 ∷ 0 ∷ 7 ∷ []) ++ customer X guarantee_x limit_x ++ customer Y guarantee_y limit_y

unfoldable pub two_hundred : List StarredCase
two_hundred =
    -- the starred cases' customers, with 198 and 200 for Y: S is 199
    begin (roster_of2 1 2 198 200) (after 0 199 0 true)
    -- X's first call: 20, S 199; again: 21; X's second: 20, S 200; X's third, over its limit: 34
    ∷ ask [] (setup X 1 1) (after 20 199 1 false)
    ∷ ask [] (setup X 1 1) (after 21 199 1 true)
    ∷ ask [] (setup X 2 2) (after 20 200 2 false)
    ∷ ask [] (setup X 3 3) (after 34 200 2 true)
    -- Y is below its guarantee: 20, and S stays
    ∷ ask [] (setup Y 1 1) (after 20 200 3 false)
    -- X without a guarantee and with limit 3, Y with 199: S is 199; X's first: 20, S 200, the total; X's second: 34; X
    -- closes, and asks again: 20
    ∷ begin (roster_of2 0 3 199 200) (after 0 199 0 false)
    ∷ ask [] (setup X 1 1) (after 20 200 1 false)
    ∷ ask [] (setup X 2 2) (after 34 200 1 true)
    ∷ ask (close X 1 1 ∷ []) (setup X 2 2) (after 20 200 1 false)
    -- S 64 is the total of form 1: X's second is 34; of form 2 it is none: 20, S 65
    ∷ begin (roster_of 0 2 63 64) (after 0 63 0 false)
    ∷ ask [] (setup X 1 1) (after 20 64 1 false)
    ∷ ask [] (setup X 2 2) (after 34 64 1 true)
    ∷ begin (roster_of2 0 2 63 64) (after 0 63 0 false)
    ∷ ask [] (setup X 1 1) (after 20 64 1 false)
    ∷ ask [] (setup X 2 2) (after 20 65 2 false)
    -- two guarantees of 100 and 101: 46
    ∷ begin (roster_of2 100 200 101 200) (after 46 0 0 false)
    ∷ []

-- the definitions give what 02 says of each row
abbrev pub TwoHundredHold : Type 0
TwoHundredHold = outcomes at_rest empty_table two_hundred ≡ map expected two_hundred

-- ---- slots beyond form 1's total

-- the slot of a customer's call, by its short ID
abbrev slot_of_call : Table → ℕ → ℕ → ℕ
slot_of_call t sender short = first_of (λ e. e.slot) (λ e. eqb sender e.ids.sender && eqb short e.ids.short) (entries t)

abbrev pub slots_in : Table → List ℕ
slots_in t = slot_of_call t Y 1 ∷ slot_of_call t X 1 ∷ slot_of_call t X 2 ∷ []

abbrev pub slot_roster : List ℕ
slot_roster = roster_of2 1 2 198 200

-- Y has 65 calls, with the short IDs 65 down to 1 in slots 0 to 64, and closes the one in slot 3; then X opens two
unfoldable pub slot_messages : List (List ℕ)
slot_messages = calls_of_y 65 ++ close Y 62 62 ∷ setup X 1 1 ∷ setup X 2 2 ∷ []

abbrev pub slots_after : StepTo Handled → List ℕ
slots_after step = slots_in (table_through step buffer (table_for (roster_answer slot_roster) slot_roster) slot_messages)

-- Y's last call stands in slot 64, X's first in the slot that was closed, X's second in slot 65
abbrev pub slots_due : List ℕ
slots_due = 64 ∷ 3 ∷ 65 ∷ []

abbrev pub LowestTaken : Type 0
LowestTaken = slots_after at_rest ≡ slots_due
