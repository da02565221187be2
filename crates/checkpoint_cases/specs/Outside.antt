-- A call in slot 64, with a connection, read under a roster of form 1, whose total is 64, and under one of form 2 (02, A13:
-- calls that name a slot outside the total are dropped; A11: form 2 has 200).
use Rattle.std.specs.Prelude.{ℕ, ◌≡◌, List, [], ◌∷◌, ◌++◌, map, true, false}
use Rattle.numbers.specs.BigEndian.{bytes32}
use Rattle.spec_changes.specs.Calls.{stored}
use Rattle.spec_checkpoint.specs.Layout.{call_bytes, connection_bytes, head_bytes}
use Rattle.checkpoint_cases.specs.Twins.{ReadingCase, X, end, roster_bytes, call, connection, read_under, expected}

-- the customer of the form 1 roster in one of form 2: guarantee 1 and limit 2 in 8 bits each
abbrev pub roster_bytes2 : List ℕ
roster_bytes2 = 0x21 ∷ bytes32 end ++ (0 ∷ 0 ∷ 7 ∷ []) ++ bytes32 X ++ (1 ∷ 2 ∷ [])

abbrev outside : List ℕ
outside = head_bytes 1 1 ++ call_bytes 64 (stored 0 (call 5)) ++ connection_bytes (connection 5 1)

unfoldable pub under_form1 : List ReadingCase
under_form1 =
    -- read plainly, such a copy is refused; salvage drops the call, and its connection with it
    record { salvage = false; checkpoint = outside; outcome = record { answer = 72; calls = 0; connections = 0; slots = []; held = [] } }
    ∷ record { salvage = true; checkpoint = outside; outcome = record { answer = 0; calls = 1; connections = 1; slots = []; held = [] } }
    ∷ []

unfoldable pub under_form2 : List ReadingCase
under_form2 =
    -- the call is kept, in its slot
    record { salvage = false; checkpoint = outside; outcome = record { answer = 0; calls = 0; connections = 0; slots = 64 ∷ []; held = 5 ∷ [] } }
    ∷ []

-- the definitions give what each row says
abbrev pub OutsideHold : Type 0
OutsideHold =
    (map (read_under roster_bytes) under_form1 ≡ map expected under_form1)
    × (map (read_under roster_bytes2) under_form2 ≡ map expected under_form2)
