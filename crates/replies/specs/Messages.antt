-- The bytes of the two messages that the node sends, objects in the order of 01, Reply bytes.
use Rattle.std.specs.Prelude.{ℕ, ◌+◌, ◌%◌, ◌≤◌, ◌≡◌, List, ◌++◌, length}
use Rattle.objects.specs.Classes.{message_id, message_id_ack}
use Rattle.objects.specs.Part.{part_of, Within}
use Rattle.replies.specs.declared.path_err.PathErr.{PathErr}
use Rattle.replies.specs.declared.notify.Notify.{Notify}
use Rattle.reply_objects.specs.Objects.{identifier_bytes, error_spec_bytes, admin_status_bytes, session_with, attribute_with}
use Rattle.reply_objects.specs.Header.{header_bytes, with_checksum}
use Rattle.reply_objects.specs.Buffer.{least_buffer}

-- a message's header, with the length of the whole, and its objects
abbrev pub before_checksum : ℕ → List ℕ → List ℕ
before_checksum kind objects = header_bytes kind (8 + length objects) ++ objects

-- PathErr: SESSION as received, ERROR_SPEC, SENDER_TEMPLATE as received
unfoldable pub path_err_before_checksum : List ℕ → PathErr → List ℕ
path_err_before_checksum msg e = before_checksum 3 (part_of msg e.session ++ error_spec_bytes e.error ++ part_of msg e.template)

unfoldable pub path_err_bytes : List ℕ → PathErr → List ℕ
path_err_bytes msg e = with_checksum (path_err_before_checksum msg e)

-- Notify: MESSAGE_ID_ACK with flags 0, MESSAGE_ID with flags 1, ERROR_SPEC; this SESSION, ADMIN_STATUS, this
-- SESSION_ATTRIBUTE, and SENDER_TEMPLATE as received
abbrev pub notify_front : Notify → List ℕ
notify_front n = identifier_bytes message_id_ack 0 n.acknowledged ++ identifier_bytes message_id 1 n.own ++ error_spec_bytes n.error

abbrev pub notify_with : List ℕ → Notify → List ℕ → List ℕ → List ℕ
notify_with msg n session attribute = before_checksum 21 (notify_front n ++ session ++ admin_status_bytes n.status ++ attribute ++ part_of msg n.template)

-- SESSION and SESSION_ATTRIBUTE as received
unfoldable pub notify_before_checksum : List ℕ → Notify → List ℕ
notify_before_checksum msg n = notify_with msg n (part_of msg n.session) (part_of msg n.attribute)

unfoldable pub notify_bytes : List ℕ → Notify → List ℕ
notify_bytes msg n = with_checksum (notify_before_checksum msg n)

-- the reply to a request without names: the call's ID and name in place of the received ones (02, A6)
unfoldable pub notify_made_bytes : List ℕ → Notify → ℕ → List ℕ → List ℕ
notify_made_bytes msg n call name =
    with_checksum (notify_with msg n (session_with (part_of msg n.session) call) (attribute_with (part_of msg n.attribute) name))

-- what the writers ask: the parts are a SESSION, a SENDER_TEMPLATE and a SESSION_ATTRIBUTE with a name of up to 32
-- bytes, each of a size that 01's table gives, within the message, and the buffer has the room of answer 2
pub record PathErrFits (msg : List ℕ) (e : PathErr) (reply : List ℕ) : Type 0 where
  pub session : Within msg e.session
  pub template : Within msg e.template
  pub session_size : e.session.size ≡ 16
  pub template_size : e.template.size ≡ 12
  pub room : least_buffer ≤ length reply

pub record NotifyFits (msg : List ℕ) (n : Notify) (reply : List ℕ) : Type 0 where
  pub session : Within msg n.session
  pub template : Within msg n.template
  pub attribute : Within msg n.attribute
  pub session_size : n.session.size ≡ 16
  pub template_size : n.template.size ≡ 12
  pub attribute_least : 8 ≤ n.attribute.size
  pub attribute_most : n.attribute.size ≤ 40
  pub attribute_fours : n.attribute.size % 4 ≡ 0
  pub room : least_buffer ≤ length reply

-- what the writing of a Notify's objects asks, whatever SESSION and SESSION_ATTRIBUTE are: sizes that 01's table gives,
-- and the same room
pub record ObjectsFit (msg : List ℕ) (n : Notify) (session attribute reply : List ℕ) : Type 0 where
  pub template : Within msg n.template
  pub template_size : n.template.size ≡ 12
  pub session_size : length session ≡ 16
  pub attribute_most : length attribute ≤ 40
  pub room : least_buffer ≤ length reply
