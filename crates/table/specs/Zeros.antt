-- What is free holds zeros (01, Share): free places, free slots, unused roster records; and the empty table of a
-- refused roster.
use Rattle.std.specs.Prelude.{[], replicate}
use Rattle.table.specs.Table.{Place, Call, Customer, Table}
use Rattle.table.specs.Total.{slots}

abbrev pub no_place : Place
no_place = record { taken = 0; tunnel = 0; extended = 0; lsp = 0 }

unfoldable pub no_call : Call
no_call = record {
  endpoint = 0;
  sender = 0;
  refreshed = 0;
  epoch = 0;
  identifier = 0;
  id = 0;
  made = 0;
  size = 0;
  name = replicate 32 0;
  places = replicate 4 no_place;
}

unfoldable pub no_customer : Customer
no_customer = record {
  address = 0;
  guarantee = 0;
  limit = 0;
  kept = 0;
  epoch = 0;
  identifier = 0;
  endpoints = replicate 4 0;
  places = replicate 4 no_place;
}

-- no customers, all zeros, the time too (02, A7: at first 0), next own identifier 1
unfoldable pub empty_table : Table
empty_table = record {
  address = 0;
  epoch = 0;
  next = 1;
  time = 0;
  listed = 0;
  form = 0;
  occupied = replicate 4 0;
  customers = replicate 8 no_customer;
  calls = replicate slots no_call;
}

-- what an index past an array's end would read: no index goes there, and a definition has to say something
abbrev pub past_call : Call
past_call = record {
  endpoint = 0;
  sender = 0;
  refreshed = 0;
  epoch = 0;
  identifier = 0;
  id = 0;
  made = 0;
  size = 0;
  name = [];
  places = [];
}

abbrev pub past_customer : Customer
past_customer = record {
  address = 0;
  guarantee = 0;
  limit = 0;
  kept = 0;
  epoch = 0;
  identifier = 0;
  endpoints = [];
  places = [];
}
