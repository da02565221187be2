-- What a message that was read has: its parts lie within it, with the sizes that a reply relies on; a request names a
-- call, with a long ID that ends in a byte that is not zero, or, to open one, has neither ID; and where the message is a
-- byte string the IDs have sixteen bits, the epoch 24 and the identifier 32.
use Rattle.std.specs.Prelude.{ℕ, suc, ◌+◌, ◌%◌, ◌≤◌, ◌<◌, ◌≡◌, ◌⊎◌, ◌≢◌, List, get_or}
use Rattle.numbers.specs.BigEndian.{Bytes}
use Rattle.objects.specs.Part.{Within}
use Rattle.messages.specs.declared.message.CallRequest.{CallRequest}
use Rattle.messages.specs.declared.message.Connection.{Connection}
use Rattle.messages.specs.declared.message.Message.{Message}
use Rattle.messages.specs.declared.message.Message.TheVariants.{Open, Close, Add, Drop}

pub record CallInside (s : List ℕ) (r : CallRequest) : Type 0 where
  pub session : Within s r.session
  pub template : Within s r.template
  pub attribute : Within s r.attribute
  pub name : Within s r.name
  pub session_size : r.session.size ≡ 16
  pub template_size : r.template.size ≡ 12
  pub attribute_least : 8 ≤ r.attribute.size
  pub attribute_most : r.attribute.size ≤ 40
  pub attribute_fours : r.attribute.size % 4 ≡ 0
  pub name_most : r.name.size ≤ 32
  pub name_ends : (k : ℕ) → r.name.size ≡ suc k → get_or s (r.name.at + k) 0 ≢ 0
  pub call_fits : Bytes s → r.call.0 < 0x10000
  pub epoch_fits : Bytes s → r.sequence.epoch < 0x1000000
  pub identifier_fits : Bytes s → r.sequence.identifier < 0x100000000

-- both IDs
pub record HasIds (r : CallRequest) : Type 0 where
  pub name_some : 0 < r.name.size
  pub call_some : 0 < r.call.0

-- 02, A6: neither
pub record HasNone (r : CallRequest) : Type 0 where
  pub name_none : r.name.size ≡ 0
  pub call_none : r.call.0 ≡ 0

pub record ConnectionInside (s : List ℕ) (c : Connection) : Type 0 where
  pub session : Within s c.session
  pub template : Within s c.template
  pub session_size : c.session.size ≡ 16
  pub template_size : c.template.size ≡ 12
  pub tunnel_fits : Bytes s → c.lsp.tunnel.0 < 0x10000
  pub lsp_fits : Bytes s → c.lsp.lsp.0 < 0x10000

abbrev pub Inside : List ℕ → Message → Type 0
Inside s (Open r) = CallInside s r × (HasIds r ⊎ HasNone r)
Inside s (Close r) = CallInside s r × HasIds r
Inside s (Add c) = ConnectionInside s c
Inside s (Drop c) = ConnectionInside s c
