-- What the table shows: its roster, its open calls and its connections, as lists. All rules and answers are over these
-- three.
use Rattle.std.specs.Prelude.{ℕ, Bool, List, ◌++◌, take, ◌==◌, nat_lt, slice_index, slice_index_or}
use Rattle.lists.specs.Below.{element_if, list_if, below}
use Rattle.objects.specs.declared.fields.MessageId.{MessageId}
use Rattle.table.specs.Table.{Place, Call, Customer, Table}
use Rattle.table.specs.Total.{slots}
use Rattle.table.specs.Word.{is_used}
use Rattle.table.specs.Zeros.{no_place, past_call, past_customer}

-- ---- the roster: a customer's address, guarantee and limit

pub record Terms : Type 0 where
  pub address : ℕ
  pub guarantee : ℕ
  pub limit : ℕ

abbrev pub customer_at : Table → ℕ → Customer
customer_at t k = slice_index_or t.customers k past_customer

abbrev pub terms_of : Customer → Terms
terms_of c = record { address = c.address; guarantee = c.guarantee; limit = c.limit }

abbrev pub listed_at : Table → ℕ → List Terms
listed_at t k = element_if (nat_lt k t.listed) (terms_of (customer_at t k))

abbrev pub roster : Table → List Terms
roster t = below (listed_at t) 8

-- ---- the open calls, in slot order

-- a call's four (01, The ledger): end point, sender, short ID, long ID
pub record Ids : Type 0 where
  pub endpoint : ℕ
  pub sender : ℕ
  pub short : ℕ
  pub long : List ℕ

-- a call in its slot: its four, whether the node made its IDs, and the epoch and identifier of the request for which it
-- made them (02, A6)
pub record Entry : Type 0 where
  pub slot : ℕ
  pub ids : Ids
  pub made : Bool
  pub request : MessageId

abbrev pub call_at : Table → ℕ → Call
call_at t i = slice_index_or t.calls i past_call

-- the long Call ID is exactly the name's `size` bytes
abbrev pub ids_of : Call → Ids
ids_of c = record { endpoint = c.endpoint; sender = c.sender; short = c.id; long = take c.size c.name }

-- 02, A6: the mark of a call whose IDs the node made
abbrev pub is_made : Call → Bool
is_made c = c.made == 1

-- the entry of a call that stands in a slot: every entry of a call is made by this
abbrev pub entry_of : ℕ → Call → Entry
entry_of i c = record { slot = i; ids = ids_of c; made = is_made c; request = record { epoch = c.epoch; identifier = c.identifier } }

abbrev pub open_at : Table → ℕ → List Entry
open_at t i = element_if (is_used t.occupied i) (entry_of i (call_at t i))

abbrev pub entries : Table → List Entry
entries t = below (open_at t) slots

-- ---- the connections: under the calls by slot and place, then those of Call ID 0 by customer and place

-- what a connection is known by (01, Every answer), and the Call ID that it stands under
pub record Lsp : Type 0 where
  pub endpoint : ℕ
  pub tunnel : ℕ
  pub extended : ℕ
  pub sender : ℕ
  pub lsp_id : ℕ

pub record Held : Type 0 where
  pub call : ℕ
  pub lsp : Lsp

-- four places for connections (01, Share): their Call ID and sender, and the end point by place
pub record Four : Type 0 where
  pub call : ℕ
  pub sender : ℕ
  pub endpoint : ℕ → ℕ
  pub places : List Place

-- under a call, end point and sender are the call's
abbrev pub call_four : Call → Four
call_four c = record { call = c.id; sender = c.sender; endpoint = λ j. c.endpoint; places = c.places }

-- with Call ID 0, the sender is the customer
abbrev pub customer_four : Customer → Four
customer_four m = record { call = 0; sender = m.address; endpoint = λ j. slice_index m.endpoints j; places = m.places }

abbrev pub place_at : Four → ℕ → Place
place_at f j = slice_index_or f.places j no_place

abbrev pub is_taken : Place → Bool
is_taken p = p.taken == 1

abbrev pub connection_at : Four → ℕ → Held
connection_at f j = record {
  call = f.call;
  lsp = record {
    endpoint = f.endpoint j;
    tunnel = (place_at f j).tunnel;
    extended = (place_at f j).extended;
    sender = f.sender;
    lsp_id = (place_at f j).lsp;
  };
}

abbrev pub held_place : Four → ℕ → List Held
held_place f j = element_if (is_taken (place_at f j)) (connection_at f j)

abbrev pub held_in : Four → List Held
held_in f = below (held_place f) 4

abbrev pub held_at : Table → ℕ → List Held
held_at t i = list_if (is_used t.occupied i) (held_in (call_four (call_at t i)))

abbrev pub standalone_at : Table → ℕ → List Held
standalone_at t k = list_if (nat_lt k t.listed) (held_in (customer_four (customer_at t k)))

abbrev pub held : Table → List Held
held t = below (held_at t) slots ++ below (standalone_at t) 8
