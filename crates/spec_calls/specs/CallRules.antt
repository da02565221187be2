-- Open and close (01, Every answer and Share): over the roster, the open calls and the connections.
use Rattle.std.specs.Prelude.{ℕ, List, Bool, cond, not, ◌&&◌, ◌||◌, leb, eqb}
use Rattle.lists.specs.Count.{has}
use Rattle.objects.specs.Part.{part_of}
use Rattle.messages.specs.declared.message.CallRequest.{CallRequest}
use Rattle.table.specs.Lists.{Terms, Ids, Entry, Held}
use Rattle.table.specs.Share.{guarantee_of, limit_of, calls_of, S}
use Rattle.table.specs.Rules.{same_short, same_long}
use Rattle.spec_changes.specs.Calls.{is_call}
use Rattle.spec_changes.specs.Connections.{is_under}
use Rattle.answers.specs.declared.answer.Answer.{Answer}
use Rattle.answers.specs.declared.answer.Answer.TheVariants.{CallOpened, CallAlreadyOpen, CallClosed, CallIdContention, DuplicateCall, ConnectionsStillExist, UnknownCall, NoShare}

-- the four of a request: the long Call ID is the session name, exactly name-length bytes
abbrev pub ids_in : List ℕ → CallRequest → Ids
ids_in message q = record { endpoint = q.endpoint; sender = q.sender; short = q.call.0; long = part_of message q.name }

-- 02, A6: a request without names. What is read as an open has both IDs or neither.
abbrev pub nameless : CallRequest → Bool
nameless q = eqb q.name.size 0

-- 02, A6: a call that the node made for a request of this pair, with its epoch and identifier
abbrev pub is_made_by : CallRequest → Entry → Bool
is_made_by q e =
    e.made
    && (eqb q.endpoint e.ids.endpoint && eqb q.sender e.ids.sender)
    && eqb q.sequence.epoch e.request.epoch
    && eqb q.sequence.identifier e.request.identifier

-- the call that an open is for: the one that has its four or, without names, the one made for its two numbers
abbrev pub is_named_by : List ℕ → CallRequest → Entry → Bool
is_named_by s q e = cond (nameless q) (is_made_by q e) (is_call (ids_in s q) e)

-- both IDs name one call of the pair
abbrev pub is_open : List Entry → Ids → Bool
is_open l c = has (is_call c) l

-- the pair has the short ID, the long ID in use
abbrev pub short_in_use : List Entry → Ids → Bool
short_in_use l c = has (λ e. same_short c e.ids) l

abbrev pub long_in_use : List Entry → Ids → Bool
long_in_use l c = has (λ e. same_long c e.ids) l

-- an open whose call is open already
abbrev pub is_retry : List Entry → List ℕ → CallRequest → Bool
is_retry l s q = has (is_named_by s q) l

-- an open whose short ID, whose long ID is in use; neither counts for one without names
abbrev pub short_taken : List Entry → List ℕ → CallRequest → Bool
short_taken l s q = not (nameless q) && short_in_use l (ids_in s q)

abbrev pub long_taken : List Entry → List ℕ → CallRequest → Bool
long_taken l s q = not (nameless q) && long_in_use l (ids_in s q)

-- 34: c equals the limit, or c is at least g and S is the total
unfoldable pub share_used_up : ℕ → List Terms → List Entry → ℕ → Bool
share_used_up total r l sender =
    eqb (calls_of l sender) (limit_of r sender) || leb (guarantee_of r sender) (calls_of l sender) && eqb (S r l) total

-- 21 if its call is open, else 31, 30, 34, 20
unfoldable pub open_answer : ℕ → List Terms → List Entry → List ℕ → CallRequest → Answer
open_answer total r l s q =
    cond (is_retry l s q) CallAlreadyOpen
    (cond (long_taken l s q) DuplicateCall
    (cond (short_taken l s q) CallIdContention
    (cond (share_used_up total r l q.sender) NoShare
    CallOpened)))

-- 33, 32, 22
unfoldable pub close_answer : List Entry → List Held → Ids → Answer
close_answer l h c =
    cond (not (is_open l c)) UnknownCall
    (cond (has (is_under c) h) ConnectionsStillExist
    CallClosed)
