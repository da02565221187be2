-- Calls that the node made (02, A6) in a copy, each with the mark and its request's epoch and identifier: no two of a pair
-- may share both numbers, and a call without the mark has none.
use Rattle.std.specs.Prelude.{ℕ, ◌+◌, ◌≡◌, List, [], ◌∷◌, ◌++◌, map, Bool, true, false}
use Rattle.spec_changes.specs.Calls.{stored}
use Rattle.spec_checkpoint.specs.Layout.{call_bytes, head_bytes}
use Rattle.checkpoint_cases.specs.Twins.{ReadingCase, X, end, roster_bytes, read_under, expected}

-- the record of a call of X: its two IDs are its slot's alone
abbrev call_of : ℕ → ℕ → Bool → ℕ → ℕ → List ℕ
call_of slot endpoint made epoch identifier =
    call_bytes slot
    (stored 0
    (record {
      ids = record { endpoint = endpoint; sender = X; short = slot + 1; long = (slot + 97) ∷ [] };
      made = made;
      request = record { epoch = epoch; identifier = identifier };
    }))

-- salvage of so many records: how many it drops, and the slots that are used then
abbrev row_of : ℕ → List ℕ → ℕ → List ℕ → ReadingCase
row_of calls records dropped slots = record {
  salvage = true;
  checkpoint = head_bytes calls 0 ++ records;
  outcome = record { answer = 0; calls = dropped; connections = 0; slots = slots; held = [] };
}

unfoldable pub number_rows : List ReadingCase
number_rows =
    -- one pair and both numbers, under different IDs: the second is dropped
    row_of 2 (call_of 0 end true 7 9 ++ call_of 1 end true 7 9) 1 (0 ∷ [])
    -- another identifier, another epoch, another pair: both are kept
    ∷ row_of 2 (call_of 0 end true 7 9 ++ call_of 1 end true 7 8) 0 (0 ∷ 1 ∷ [])
    ∷ row_of 2 (call_of 0 end true 7 9 ++ call_of 1 end true 8 9) 0 (0 ∷ 1 ∷ [])
    ∷ row_of 2 (call_of 0 end true 7 9 ++ call_of 1 X true 7 9) 0 (0 ∷ 1 ∷ [])
    ∷ []

unfoldable pub mark_rows : List ReadingCase
mark_rows =
    -- numbers without the mark: dropped
    row_of 1 (call_of 0 end false 7 0) 1 []
    ∷ row_of 1 (call_of 0 end false 0 9) 1 []
    -- 0 and 0 are numbers like others: kept, also beside a call of the pair that has no mark
    ∷ row_of 1 (call_of 0 end true 0 0) 0 (0 ∷ [])
    ∷ row_of 2 (call_of 0 end false 0 0 ++ call_of 1 end true 0 0) 0 (0 ∷ 1 ∷ [])
    ∷ []

-- the definitions give what each row says
abbrev pub SharedNumbers : Type 0
SharedNumbers = map (read_under roster_bytes) number_rows ≡ map expected number_rows

abbrev pub MarksDecide : Type 0
MarksDecide = map (read_under roster_bytes) mark_rows ≡ map expected mark_rows
