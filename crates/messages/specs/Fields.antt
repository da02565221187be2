-- The fields of a message, by the places of its objects (01, Message layout: the table's bodies).
use Rattle.std.specs.Prelude.{ℕ, ◌+◌, List}
use Rattle.numbers.specs.BigEndian.{be16_at, be24_at, be32_at}
use Rattle.numbers.specs.Search.{unpadded}
use Rattle.objects.specs.Forms.{name_length}
use Rattle.messages.specs.declared.message.CallRequest.{CallRequest}
use Rattle.messages.specs.declared.message.Connection.{Connection}

-- SESSION: end point, Call ID, Tunnel ID, extended tunnel ID
abbrev pub endpoint_at : List ℕ → ℕ → ℕ
endpoint_at s session = be32_at s (session + 4)

abbrev pub call_id_at : List ℕ → ℕ → ℕ
call_id_at s session = be16_at s (session + 8)

abbrev pub tunnel_at : List ℕ → ℕ → ℕ
tunnel_at s session = be16_at s (session + 10)

abbrev pub extended_at : List ℕ → ℕ → ℕ
extended_at s session = be32_at s (session + 12)

-- SENDER_TEMPLATE: sender, LSP ID
abbrev pub sender_at : List ℕ → ℕ → ℕ
sender_at s template = be32_at s (template + 4)

abbrev pub lsp_at : List ℕ → ℕ → ℕ
lsp_at s template = be16_at s (template + 10)

-- what a Path or a PathTear says
unfoldable pub connection_in : List ℕ → ℕ → ℕ → Connection
connection_in s session template = record {
  call = record { 0 = call_id_at s session };
  lsp = record {
    endpoint = endpoint_at s session;
    tunnel = record { 0 = tunnel_at s session };
    extended = extended_at s session;
    sender = sender_at s template;
    lsp = record { 0 = lsp_at s template };
  };
  session = record { at = session; size = 16 };
  template = record { at = template; size = 12 };
}

-- the size of the long Call ID: the session name without the zeros at its end (02, A1: padding is no part of a name)
abbrev pub long_size : List ℕ → ℕ → ℕ
long_size s attribute = unpadded s (attribute + 8) (name_length s attribute)

-- what a Notify says; MESSAGE_ID: flags, epoch, identifier; SESSION_ATTRIBUTE: priorities, flags, name length, name
unfoldable pub request_at : List ℕ → ℕ → ℕ → ℕ → ℕ → CallRequest
request_at s session template identifier attribute = record {
  endpoint = endpoint_at s session;
  sender = sender_at s template;
  call = record { 0 = call_id_at s session };
  name = record { at = attribute + 8; size = long_size s attribute };
  sequence = record { epoch = be24_at s (identifier + 5); identifier = be32_at s (identifier + 8) };
  session = record { at = session; size = 16 };
  attribute = record { at = attribute; size = be16_at s attribute };
  template = record { at = template; size = 12 };
}
