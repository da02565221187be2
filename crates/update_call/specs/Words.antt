-- The words of a new call as the call that they are: a word of contracts only.
use Rattle.std.specs.Prelude.{ℕ, List, replicate}
use Rattle.objects.specs.declared.fields.MessageId.{MessageId}
use Rattle.messages.specs.declared.message.CallRequest.{CallRequest}
use Rattle.table.specs.Table.{Call}
use Rattle.table.specs.Zeros.{no_place}

abbrev pub new_call : CallRequest → ℕ → MessageId → ℕ → ℕ → ℕ → List ℕ → Call
new_call q refreshed request id made size name = record {
  endpoint = q.endpoint;
  sender = q.sender;
  refreshed = refreshed;
  epoch = request.epoch;
  identifier = request.identifier;
  id = id;
  made = made;
  size = size;
  name = name;
  places = replicate 4 no_place;
}
