-- The IDs that the node makes for a request without names (02, A6): the short ID is the least number from 1 such that
-- neither it nor its name is in use by the pair.
use Rattle.std.specs.Prelude.{ℕ, zero, suc, ◌+◌, ◌-◌, ◌*◌, ◌/◌, ◌%◌, List, [], ◌∷◌, ◌++◌, Bool, true, false, cond, not, ◌&&◌, ltb, length}
use Rattle.lists.specs.Below.{first_not}
use Rattle.messages.specs.declared.message.CallRequest.{CallRequest}
use Rattle.table.specs.Lists.{Ids, Entry}
use Rattle.spec_changes.specs.Calls.{New}
use Rattle.spec_calls.specs.CallRules.{ids_in, nameless, short_in_use, long_in_use}

-- ---- the name

-- 02, A6: a lower case hex digit, as its byte of ASCII: 30 is `0`, 61 is `a`
unfoldable pub hex_digit : ℕ → ℕ
hex_digit d = cond (ltb d 10) (0x30 + d) (0x61 + (d - 10))

-- 02, A6: the last n hex digits of a number, most significant first
unfoldable pub hex_digits : ℕ → ℕ → List ℕ
hex_digits zero v = []
hex_digits (suc n) v = hex_digits n (v / 16) ++ hex_digit (v % 16) ∷ []

-- 02, A6: the name is 20 digits: sender 8, end point 8, short ID 4
unfoldable pub made_name : ℕ → ℕ → ℕ → List ℕ
made_name endpoint sender short = hex_digits 8 sender ++ hex_digits 8 endpoint ++ hex_digits 4 short

-- the four (01, The ledger) of a call of this pair and this short ID under the name made of them
abbrev pub made_ids : ℕ → ℕ → ℕ → Ids
made_ids endpoint sender short = record { endpoint = endpoint; sender = sender; short = short; long = made_name endpoint sender short }

-- ---- the short ID

-- 02, A6: neither the short ID nor the long ID is in use by the pair (01, The ledger: an entry of the pair has it)
unfoldable pub is_unused : List Entry → Ids → Bool
is_unused l c = not (short_in_use l c) && not (long_in_use l c)

-- the least of n numbers from k on that passes a test, the number behind them where none does
abbrev pub least_from : (ℕ → Bool) → ℕ → ℕ → ℕ
least_from p n k = first_not (λ j. not (p j)) n k

-- 02, A6: the least from 1. An entry takes at most two numbers, its short ID and the one that its name is made of: where
-- all of 2 x length are taken, the number behind them is not (`made_free`).
unfoldable pub made_short : List Entry → ℕ → ℕ → ℕ
made_short l endpoint sender = least_from (λ n. is_unused l (made_ids endpoint sender n)) (2 * length l) 1

-- 02, A6: the ID and name that this rule makes from the entries there, for end point and sender
abbrev pub made_for : List Entry → ℕ → ℕ → Ids
made_for l endpoint sender = made_ids endpoint sender (made_short l endpoint sender)

-- ---- the call

-- the call that an open is for: the message's four; or, for one without names, what the node makes from the calls there,
-- with the request's two numbers
abbrev pub new_for : List Entry → List ℕ → CallRequest → New
new_for l s q =
    cond (nameless q)
    (record { ids = made_for l q.endpoint q.sender; made = true; request = q.sequence })
    (record { ids = ids_in s q; made = false; request = record { epoch = 0; identifier = 0 } })
