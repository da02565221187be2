-- Demand 3, as one statement over a whole list of messages (01, The ledger behind demand 3).
use Rattle.std.specs.Prelude.{ℕ, ◌+◌, ◌≤◌, ◌≡◌, ◌⊎◌, ◌≢◌, List, [], ◌∷◌, map, Bool, true, false, cond, ◌&&◌, ◌||◌, ltb, eqb, length}
use Rattle.numbers.specs.BigEndian.{Bytes}
use Rattle.numbers.specs.Search.{is_in}
use Rattle.lists.specs.Count.{count_if, has}
use Rattle.messages.specs.declared.message.CallRequest.{CallRequest}
use Rattle.messages.specs.declared.message.Message.TheVariants.{Open}
use Rattle.table.specs.Table.{Customer, Table}
use Rattle.table.specs.Lists.{Terms, roster, Entry, entries}
use Rattle.table.specs.Share.{is_listed, guarantee_of, limit_of, calls_of, S}
use Rattle.table.specs.Rules.{rules_hold}
use Rattle.spec_changes.specs.Shape.{Shape}
use Rattle.spec_changes.specs.Expiry.{Closing, Rising, elapsed}
use Rattle.spec_changes.specs.Last.{Last, last_of}
use Rattle.answers.specs.declared.answer.Answer.{Answer}
use Rattle.answers.specs.Answers.{answer_number, is}
use Rattle.spec_calls.specs.Form.{sound, form_of}
use Rattle.spec_calls.specs.CallRules.{nameless, is_retry, short_taken, long_taken}
use Rattle.spec_calls.specs.Handling.{answer_from2, Handled, handled}
use Rattle.spec_promises.specs.Ledger.{Fed, dropped, ledger, last_in, answered, lapsed}

-- what the caller hands in beside the table; a message is a byte string
pub record Input : Type 0 where
  pub message : List ℕ
  pub bytes : Bytes message
  pub buffer : List ℕ
  pub time : ℕ
  pub period : ℕ

abbrev pub handled_by : Table → Input → Handled
handled_by t x = handled t x.message x.buffer x.time x.period

abbrev pub fed : Table → Input → Fed
fed t x = record {
  message = x.message;
  room = length x.buffer;
  time = x.time;
  period = x.period;
  answer = (handled_by t x).answer;
  closings = (handled_by t x).closings;
}

abbrev pub table_then : Table → Input → Table
table_then t x = (handled_by t x).table

-- 02, A7: "each message that isn't refused 1 or 2" finds the table after the closings; "as they were" and "equal" read
-- from there
abbrev pub at_once : Answer → Bool
at_once a = is 1 a || is 2 a

abbrev pub table_found : Table → Input → Table
table_found t x = cond (at_once (fed t x).answer) t (elapsed t x.time x.period)

-- something holds at every step of a run: of the table, of what the ledger was fed before, latest first, and of the
-- input
abbrev pub AtEveryStep : (Table → List Fed → Input → Type 0) → Table → List Fed → List Input → Type 0
AtEveryStep P t h [] = Unit {0}
AtEveryStep P t h (x ∷ xs) = P t h x × AtEveryStep P (table_then t x) (fed t x ∷ h) xs

-- what a setup of no fault, not open and with neither ID in use, is answered: 20 below the guarantee; else 34 exactly
-- when the count is at the limit or no room is left, which is when S is the total; else 20
unfoldable pub due_answer : ℕ → List Terms → List Entry → ℕ → ℕ
due_answer total r l sender =
    cond (ltb (calls_of l sender) (guarantee_of r sender)) 20
    (cond (eqb (calls_of l sender) (limit_of r sender) || eqb (S r l) total) 34
    20)

-- why a setup of no fault is refused, by what the ledger has (01, Every answer): each refusal has its cause, and there
-- is no other
pub record Cause (total : ℕ) (r : List Terms) (l : List Entry) (s : List ℕ) (q : CallRequest) (number : ℕ) : Type 0 where
  pub short : number ≡ 30 → (short_taken l s q ≡ true) × (long_taken l s q ≡ false)
  pub long : number ≡ 31 → (long_taken l s q ≡ true) × (is_retry l s q ≡ false)
  pub share : number ≡ 34 → (calls_of l q.sender ≡ limit_of r q.sender) ⊎ ((guarantee_of r q.sender ≤ calls_of l q.sender) × (S r l ≡ total))
  pub only : is_in number (20 ∷ 21 ∷ 30 ∷ 31 ∷ 34 ∷ []) ≡ true
  -- 02, A6: one without names is answered neither 30 nor 31
  pub unnamed : nameless q ≡ true → is_in number (20 ∷ 21 ∷ 34 ∷ []) ≡ true

-- the ledger that a message is looked at with: the calls that its answer lists as closed before it are dropped (02, A7)
abbrev pub ledger_found : ℕ → List Entry → List Fed → Fed → List Entry
ledger_found total start h e = dropped e.closings (ledger total start h)

abbrev pub same_closing : Closing → Closing → Bool
same_closing c d = eqb c.slot d.slot && eqb c.address d.address

-- what is said of the closings that an answer lists: each listed slot is that of one entry, whose sender is the address
-- listed with it; slots rise, so that none is listed twice; and a message refused 2 lists none
pub record ClosingsPromised (l : List Entry) (e : Fed) : Type 0 where
  pub entered : (c : Closing) → has (same_closing c) e.closings ≡ true
      → (count_if (λ f. eqb c.slot f.slot) l ≡ 1) × (count_if (λ f. eqb c.slot f.slot && eqb c.address f.ids.sender) l ≡ 1)
  pub rising : Rising e.closings
  pub none : is 2 e.answer ≡ true → e.closings ≡ []

-- what holds of the answer to one input, and of the ledger after it
pub record Promised (total : ℕ) (r : List Terms) (start : List Entry) (t : Table) (h : List Fed) (x : Input) : Type 0 where
  -- the table is never found broken
  pub never_one : answer_number (fed t x).answer ≢ 1
  -- the answer is the one that document 01 gives, test 1 left out, in the table that the message finds
  pub defined : (fed t x).answer ≡ answer_from2 (table_found t x) x.message (length x.buffer)
  -- the calls said to be closed are calls of the ledger, and each is said once (02, A7)
  pub closings : ClosingsPromised (ledger total start h) (fed t x)
  -- of each customer, the calls opened are those in the ledger and those closed, by a 22 or since nobody refreshed them;
  -- those at the start count as opened
  pub counted : (sender : ℕ)
      → calls_of start sender + answered 20 sender (fed t x ∷ h) ≡ calls_of (ledger total start (fed t x ∷ h)) sender + (answered 22 sender (fed t x ∷ h) + lapsed sender (fed t x ∷ h))
  -- no customer has more calls in the ledger than its limit
  pub limited : (sender : ℕ) → is_listed r sender ≡ true → calls_of (ledger total start (fed t x ∷ h)) sender ≤ limit_of r sender
  -- a setup of no fault, judged by the ledger after its closings, whose call is not open and whose IDs its pair does not
  -- use, is answered what its customer is due; its bytes, the buffer's length and what was fed before tell whether it has a
  -- fault: a node cannot call it late to get out of opening it (02, A8). Without names,
  -- its call is the one made for its two numbers, and neither ID counts as in use (02, A6)
  pub due : (q : CallRequest) → form_of r (last_in h) (fed t x).message (fed t x).room ≡ sound (Open q)
      → is_retry (ledger_found total start h (fed t x)) x.message q ≡ false
      → long_taken (ledger_found total start h (fed t x)) x.message q ≡ false
      → short_taken (ledger_found total start h (fed t x)) x.message q ≡ false
      → answer_number (fed t x).answer ≡ due_answer total r (ledger_found total start h (fed t x)) q.sender
  -- a setup of no fault whose call is open in the ledger is a retry and is answered 21: nothing is opened a second time
  pub retried : (q : CallRequest) → form_of r (last_in h) (fed t x).message (fed t x).room ≡ sound (Open q)
      → is_retry (ledger_found total start h (fed t x)) x.message q ≡ true → answer_number (fed t x).answer ≡ 21
  -- every setup of no fault that is refused has its cause in the ledger
  pub caused : (q : CallRequest) → form_of r (last_in h) (fed t x).message (fed t x).room ≡ sound (Open q)
      → Cause total r (ledger_found total start h (fed t x)) x.message q (answer_number (fed t x).answer)

-- a table that keeps the rules, and whose open calls are a ledger's entries, in any order
pub record Agrees (t : Table) (l : List Entry) : Type 0 where
  pub shape : Shape t
  pub rules : rules_hold t ≡ true
  pub calls : (p : Entry → Bool) → count_if p (entries t) ≡ count_if p l

-- what a table keeps of each listed sender is what the list says that was fed (02, A8)
abbrev pub Remembers : Table → (ℕ → Last) → Type 0
Remembers t k = (sender : ℕ) → is_listed (roster t) sender ≡ true → last_of t sender ≡ k sender

-- a customer but for its last MESSAGE_ID: its address, guarantee and limit, and its connections of Call ID 0
abbrev pub without_last : Customer → Customer
without_last c = record {
  address = c.address;
  guarantee = c.guarantee;
  limit = c.limit;
  kept = 0;
  epoch = 0;
  identifier = 0;
  endpoints = c.endpoints;
  places = c.places;
}

-- calls and connections are as they were (demand 1; the connections of Call ID 0 stand with their customers), and so are
-- the customers but for what is kept of them (02, A8)
pub record Unchanged (before after : Table) : Type 0 where
  pub occupied : after.occupied ≡ before.occupied
  pub calls : after.calls ≡ before.calls
  pub customers : map without_last after.customers ≡ map without_last before.customers
