-- The ledger (01, The ledger behind demand 3): fed with each message, its answer with the closings that it lists, and what
-- else the caller hands in, never with the table.
use Rattle.std.specs.Prelude.{ℕ, List, [], ◌∷◌, Bool, cond, ◌&&◌, eqb, Ok, Err}
use Rattle.lists.specs.Count.{count_if, has, without, sum_of}
use Rattle.lists.specs.Below.{first_not}
use Rattle.messages.specs.declared.message.Message.{Message}
use Rattle.messages.specs.declared.message.Message.TheVariants.{Open, Close, Add, Drop}
use Rattle.messages.specs.Read.{Reading, read_of}
use Rattle.table.specs.Lists.{Ids, Entry}
use Rattle.spec_changes.specs.Calls.{entry_for, is_call}
use Rattle.spec_changes.specs.Expiry.{Closing}
use Rattle.spec_changes.specs.Last.{Last, none, last}
use Rattle.answers.specs.declared.answer.Answer.{Answer}
use Rattle.answers.specs.Answers.{is}
use Rattle.spec_calls.specs.Late.{keeps}
use Rattle.spec_calls.specs.CallRules.{ids_in}
use Rattle.spec_calls.specs.Made.{new_for}

pub record Fed : Type 0 where
  pub message : List ℕ
  pub room : ℕ
  pub time : ℕ
  pub period : ℕ
  pub answer : Answer
  pub closings : List Closing

-- the message's four; only a Notify that is read as a request has them
abbrev pub no_four : Ids
no_four = record { endpoint = 0; sender = 0; short = 0; long = [] }

abbrev pub message_four : List ℕ → Message → Ids
message_four s (Open q) = ids_in s q
message_four s (Close q) = ids_in s q
message_four s (Add c) = no_four
message_four s (Drop c) = no_four

abbrev pub read_four : List ℕ → Reading → Ids
read_four s (Err why) = no_four
read_four s (Ok read) = message_four s read.message

unfoldable pub four_of : List ℕ → Ids
four_of s = read_four s (read_of s)

-- an entry's slot is the lowest that no other has
abbrev pub lowest_slot : List Entry → ℕ → ℕ
lowest_slot l total = first_not (λ k. has (λ e. eqb k e.slot) l) total 0

-- the entry that an open adds: the message's four or, for one without names, the ID and name that the node makes from the
-- entries there, with the request's two numbers (02, A6)
abbrev pub message_opened : ℕ → List Entry → List ℕ → Message → List Entry
message_opened total l s (Open q) = entry_for (lowest_slot l total) (new_for l s q) ∷ l
message_opened total l s (Close q) = l
message_opened total l s (Add c) = l
message_opened total l s (Drop c) = l

abbrev pub read_opened : ℕ → List Entry → List ℕ → Reading → List Entry
read_opened total l s (Err why) = l
read_opened total l s (Ok read) = message_opened total l s read.message

unfoldable pub with_opened : ℕ → List Entry → List ℕ → List Entry
with_opened total l s = read_opened total l s (read_of s)

-- 20 adds an entry, 22 takes the one with the message's four out; every other answer changes nothing
abbrev pub feed : ℕ → Fed → List Entry → List Entry
feed total e l =
    cond (is 20 e.answer) (with_opened total l e.message)
    (cond (is 22 e.answer) (without (is_call (four_of e.message)) l)
    l)

-- 02, A7: an entry's slot is listed; the calls that nobody refreshed are dropped, by slot
abbrev pub is_closed : List Closing → Entry → Bool
is_closed closings e = has (λ c. eqb e.slot c.slot) closings

abbrev pub dropped : List Closing → List Entry → List Entry
dropped closings l = without (is_closed closings) l

-- the entries after what was fed, the latest first, from those at the start; the closings come before the message
abbrev pub ledger : ℕ → List Entry → List Fed → List Entry
ledger total start [] = start
ledger total start (e ∷ h) = feed total e (dropped e.closings (ledger total start h))

-- ---- the last MESSAGE_ID of a sender (02, A8)

-- the one of an open or close of that sender
abbrev pub message_last : ℕ → Message → Last
message_last sender (Open q) = cond (eqb q.sender sender) (last q.sequence) none
message_last sender (Close q) = cond (eqb q.sender sender) (last q.sequence) none
message_last sender (Add c) = none
message_last sender (Drop c) = none

abbrev pub read_last : ℕ → Reading → Last
read_last sender (Err why) = none
read_last sender (Ok read) = message_last sender read.message

unfoldable pub last_from : ℕ → List ℕ → Last
last_from sender s = read_last sender (read_of s)

-- the first of two, where there is one
abbrev pub or_last : Last → Last → Last
or_last none k = k
or_last (last id) k = last id

-- an open or close that is answered 20 to 34 leaves its MESSAGE_ID; every other message leaves what was kept
abbrev pub feed_last : ℕ → Fed → Last → Last
feed_last sender e k = cond (keeps e.answer) (or_last (last_from sender e.message) k) k

-- what is kept of a sender after what was fed, the latest first: by messages and answers alone
abbrev pub last_in : List Fed → ℕ → Last
last_in [] sender = none
last_in (e ∷ h) sender = feed_last sender e (last_in h sender)

-- ---- what was answered, and how often

-- how often a message of a sender was answered by a number: 20 is opened, 22 closed
abbrev pub answered : ℕ → ℕ → List Fed → ℕ
answered number sender h = count_if (λ e. is number e.answer && eqb (four_of e.message).sender sender) h

-- how many calls of a sender were closed since nobody refreshed them (02, A7)
abbrev pub lapsed : ℕ → List Fed → ℕ
lapsed sender h = sum_of (λ e. count_if (λ c. eqb c.address sender) e.closings) h
