-- The bytes of each object that the node makes itself (01, Message layout: the table; Reply bytes: the flags), and of
-- SESSION and SESSION_ATTRIBUTE with the IDs that it makes (02, A6).
use Rattle.std.specs.Prelude.{ℕ, ◌+◌, ◌-◌, List, [], ◌∷◌, ◌++◌, length, take, drop, replicate}
use Rattle.numbers.specs.BigEndian.{bytes16, bytes24, bytes32}
use Rattle.objects.specs.Classes.{error_spec, admin_status, session_attribute}
use Rattle.objects.specs.Forms.{rounded_up_to4}
use Rattle.objects.specs.declared.fields.MessageId.{MessageId}
use Rattle.reply_objects.specs.declared.writers.ErrorSpec.{ErrorSpec}

-- an object's header: its length, class and C-Type
abbrev pub object_header : ℕ → ℕ → ℕ → List ℕ
object_header len class ctype = bytes16 len ++ class ∷ ctype ∷ []

-- MESSAGE_ID and MESSAGE_ID_ACK: flags, epoch, identifier
abbrev pub identifier_bytes : ℕ → ℕ → MessageId → List ℕ
identifier_bytes class flags id = object_header 12 class 1 ++ flags ∷ bytes24 id.epoch ++ bytes32 id.identifier

-- ERROR_SPEC: node, flags 0, code, value
abbrev pub error_spec_bytes : ErrorSpec → List ℕ
error_spec_bytes e = object_header 12 error_spec 1 ++ bytes32 e.node ++ 0 ∷ e.code ∷ bytes16 e.value

abbrev pub admin_status_bytes : ℕ → List ℕ
admin_status_bytes bits = object_header 8 admin_status 1 ++ bytes32 bits

-- SESSION as received but for the Call ID, bytes 8 and 9 (02, A6: the answer carries the made ID)
abbrev pub session_with : List ℕ → ℕ → List ℕ
session_with received call = take 8 received ++ bytes16 call ++ drop 10 received

-- SESSION_ATTRIBUTE up to a name of this length: the received priorities and flags, bytes 4 to 6, between the header and
-- the name's length
abbrev pub attribute_front : List ℕ → ℕ → List ℕ
attribute_front received size = object_header (8 + rounded_up_to4 size) session_attribute 7 ++ take 3 (drop 4 received) ++ size ∷ []

-- SESSION_ATTRIBUTE as received but for the name (02, A6: the answer carries the made name, with the received priorities
-- and flags): zeros behind the name up to a multiple of 4
abbrev pub attribute_with : List ℕ → List ℕ → List ℕ
attribute_with received name = attribute_front received (length name) ++ name ++ replicate (rounded_up_to4 (length name) - length name) 0
