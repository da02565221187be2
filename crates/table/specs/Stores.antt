-- The table with one thing stored: a call, a customer, a connection, the occupancy's words, the next own identifier, the
-- node's time; a call with another refresh; a customer with other terms, with another last MESSAGE_ID.
use Rattle.std.specs.Prelude.{ℕ, List, slice_set}
use Rattle.objects.specs.declared.fields.MessageId.{MessageId}
use Rattle.table.specs.Table.{Place, Call, Customer, Table}

-- another call in a slot, and the occupancy's words beside it
abbrev pub with_slot : Table → List ℕ → ℕ → Call → Table
with_slot t words i c = record {
  address = t.address;
  epoch = t.epoch;
  next = t.next;
  time = t.time;
  listed = t.listed;
  form = t.form;
  occupied = words;
  customers = t.customers;
  calls = slice_set t.calls i c;
}

abbrev pub with_occupied : Table → List ℕ → Table
with_occupied t words = record {
  address = t.address;
  epoch = t.epoch;
  next = t.next;
  time = t.time;
  listed = t.listed;
  form = t.form;
  occupied = words;
  customers = t.customers;
  calls = t.calls;
}

abbrev pub with_next : Table → ℕ → Table
with_next t next = record {
  address = t.address;
  epoch = t.epoch;
  next = next;
  time = t.time;
  listed = t.listed;
  form = t.form;
  occupied = t.occupied;
  customers = t.customers;
  calls = t.calls;
}

abbrev pub with_time : Table → ℕ → Table
with_time t time = record {
  address = t.address;
  epoch = t.epoch;
  next = t.next;
  time = time;
  listed = t.listed;
  form = t.form;
  occupied = t.occupied;
  customers = t.customers;
  calls = t.calls;
}

abbrev pub with_customer : Table → ℕ → Customer → Table
with_customer t k c = record {
  address = t.address;
  epoch = t.epoch;
  next = t.next;
  time = t.time;
  listed = t.listed;
  form = t.form;
  occupied = t.occupied;
  customers = slice_set t.customers k c;
  calls = t.calls;
}

-- another connection in a place of a call's four
abbrev pub with_place : Call → ℕ → Place → Call
with_place c j p = record {
  endpoint = c.endpoint;
  sender = c.sender;
  refreshed = c.refreshed;
  epoch = c.epoch;
  identifier = c.identifier;
  id = c.id;
  made = c.made;
  size = c.size;
  name = c.name;
  places = slice_set c.places j p;
}

-- another last refresh
abbrev pub with_refresh : Call → ℕ → Call
with_refresh c time = record {
  endpoint = c.endpoint;
  sender = c.sender;
  refreshed = time;
  epoch = c.epoch;
  identifier = c.identifier;
  id = c.id;
  made = c.made;
  size = c.size;
  name = c.name;
  places = c.places;
}

-- the same of a customer's four, where each place has its end point
abbrev pub with_standalone_place : Customer → ℕ → ℕ → Place → Customer
with_standalone_place c j endpoint p = record {
  address = c.address;
  guarantee = c.guarantee;
  limit = c.limit;
  kept = c.kept;
  epoch = c.epoch;
  identifier = c.identifier;
  endpoints = slice_set c.endpoints j endpoint;
  places = slice_set c.places j p;
}

-- what a roster says of the node, how many customers it lists, and its form
abbrev pub with_roster : Table → ℕ → ℕ → ℕ → ℕ → Table
with_roster t address epoch listed form = record {
  address = address;
  epoch = epoch;
  next = t.next;
  time = t.time;
  listed = listed;
  form = form;
  occupied = t.occupied;
  customers = t.customers;
  calls = t.calls;
}

abbrev pub with_terms : Customer → ℕ → ℕ → ℕ → Customer
with_terms c address guarantee limit = record {
  address = address;
  guarantee = guarantee;
  limit = limit;
  kept = c.kept;
  epoch = c.epoch;
  identifier = c.identifier;
  endpoints = c.endpoints;
  places = c.places;
}

-- another last MESSAGE_ID (02, A8)
abbrev pub with_last : Customer → MessageId → Customer
with_last c id = record {
  address = c.address;
  guarantee = c.guarantee;
  limit = c.limit;
  kept = 1;
  epoch = id.epoch;
  identifier = id.identifier;
  endpoints = c.endpoints;
  places = c.places;
}
