-- Words of the contracts: what a call and a customer say of themselves in front of their name and places.
use Rattle.std.specs.Prelude.{ℕ, List, replicate}
use Rattle.table.specs.Table.{Call, Customer}
use Rattle.table.specs.Zeros.{no_place}
use Rattle.table_words.specs.declared.calls.CallHead.{CallHead}
use Rattle.table_words.specs.declared.customers.CustomerHead.{CustomerHead}
use Rattle.table_words.specs.declared.customers.LastWords.{LastWords}

abbrev pub head_of : Call → CallHead
head_of c = record {
  endpoint = c.endpoint;
  sender = c.sender;
  refreshed = c.refreshed;
  epoch = c.epoch;
  identifier = c.identifier;
  id = record { 0 = c.id };
  made = c.made;
  size = c.size;
}

-- a call of these numbers and this name, with nothing under it
abbrev pub call_of : CallHead → List ℕ → Call
call_of h name = record {
  endpoint = h.endpoint;
  sender = h.sender;
  refreshed = h.refreshed;
  epoch = h.epoch;
  identifier = h.identifier;
  id = h.id.0;
  made = h.made;
  size = h.size;
  name = name;
  places = replicate 4 no_place;
}

abbrev pub customer_head_of : Customer → CustomerHead
customer_head_of c = record { address = c.address; guarantee = c.guarantee; limit = c.limit }

abbrev pub last_words_of : Customer → LastWords
last_words_of c = record { kept = c.kept; epoch = c.epoch; identifier = c.identifier }
