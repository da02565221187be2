-- The last MESSAGE_ID that the node accepted in a Notify of a customer (02, A8): what the table keeps, and the table that
-- keeps another.
use Rattle.std.specs.Prelude.{ℕ, Bool, true, false, cond, eqb}
use Rattle.objects.specs.declared.fields.MessageId.{MessageId}
use Rattle.table.specs.Table.{Customer, Table}
use Rattle.table.specs.Lists.{customer_at}
use Rattle.table.specs.Stores.{with_customer, with_last}
use Rattle.spec_changes.specs.Connections.{customer_of}

-- "the last MESSAGE_ID accepted in a Notify", or none
pub data Last : Type 0 where
  none : Last
  last : MessageId → Last

-- whether there is one
abbrev pub is_kept : Last → Bool
is_kept none = false
is_kept (last id) = true

-- what a customer's record says: the mark is 1 where there is one
abbrev pub kept_in : Customer → Last
kept_in c = cond (eqb c.kept 1) (last (record { epoch = c.epoch; identifier = c.identifier })) none

-- "per customer": it stands in the record of the sender's address
abbrev pub last_of : Table → ℕ → Last
last_of t sender = kept_in (customer_at t (customer_of t sender))

-- this one is kept of a sender
unfoldable pub last_kept : Table → ℕ → MessageId → Table
last_kept t sender id = with_customer t (customer_of t sender) (with_last (customer_at t (customer_of t sender)) id)
