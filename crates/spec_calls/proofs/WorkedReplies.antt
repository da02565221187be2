-- Messages and their replies byte for byte, from 01's layout (Message layout, Reply bytes) and its worked example (The tap
-- program), computed from the definitions of reading, answering and replying. They pin where each field stands, the order
-- of the objects, their flags, and whose address, epoch and identifier a reply has.
-- Assumes nothing.
use Prim.Native.Nat.{ℕ}
use mathlib.Core.Path.{◌≡◌, refl}
use mathlib.Core.List.{List, [], ◌∷◌, ◌++◌}
use Rattle.numbers.specs.Checksum.{first_words, all_round, words_sum}
use Rattle.numbers.specs.Search.{is_in, zeros_at, unpadded}
use Rattle.lists.specs.Below.{element_if, list_if, below, first_below}
use Rattle.objects.specs.Classes.{passed_over, refused_class}
use Rattle.objects.specs.Forms.{has_form, attribute_formed, formed, misformed}
use Rattle.objects.specs.Item.{bad_length, item_at}
use Rattle.objects.specs.Walk.{seen, objects_of, walk_from, walk_of}
use Rattle.messages.specs.Header.{bad_message_length, checksum_holds, type_of, header_of}
use Rattle.messages.specs.Counts.{notify_complete, path_complete}
use Rattle.messages.specs.Fields.{connection_in, request_at}
use Rattle.messages.specs.Read.{is_call_request, is_nameless, bad_identity, notify_of, path_of, read_of}
use Rattle.reply_objects.specs.Header.{checksum_of, with_checksum}
use Rattle.replies.specs.Messages.{notify_before_checksum, notify_bytes, path_err_before_checksum, path_err_bytes}
use Rattle.table.specs.Word.{is_used}
use Rattle.table.specs.Zeros.{no_call, no_customer}
use Rattle.table.specs.Share.{S}
use Rattle.table.specs.Rules.{same_bytes, same_short, same_long, same_lsp}
use Rattle.table.specs.Roster.{guarantee_in, limit_in, customers_from, fresh_table}
use Rattle.spec_calls.specs.Form.{listed_or11, sound_or16, form_of}
use Rattle.spec_calls.specs.CallRules.{share_used_up, open_answer, close_answer}
use Rattle.spec_calls.specs.PathRules.{add_answer}
use Rattle.spec_calls.specs.Handling.{answer_from2, reply_after}

-- the worked example's roster: own address 10.0.0.2, own epoch 7, one customer, 10.0.0.1, with guarantee 1 and limit 2
abbrev example_roster : List ℕ
example_roster = 0x11 ∷ 0x0a ∷ 0x00 ∷ 0x00 ∷ 0x02 ∷ 0x00 ∷ 0x00 ∷ 0x07 ∷ 0x0a ∷ 0x00 ∷ 0x00 ∷ 0x01 ∷ 0x02 ∷ 0x08 ∷ []

-- the bytes that the table of that roster is answered with
abbrev reply_on : List ℕ → List ℕ
reply_on message = reply_after (fresh_table example_roster) message 128 (answer_from2 (fresh_table example_roster) message 128)

-- ---- a call request, every field with a number of its own

abbrev session_object : List ℕ
session_object = 0x00 ∷ 0x10 ∷ 0x01 ∷ 0x07 ∷ 0x0a ∷ 0x00 ∷ 0x00 ∷ 0x09 ∷ 0x00 ∷ 0x05 ∷ 0x03 ∷ 0x04 ∷ 0x0a ∷ 0x00 ∷ 0x00 ∷ 0x0a ∷ []

abbrev template_object : List ℕ
template_object = 0x00 ∷ 0x0c ∷ 0x0b ∷ 0x07 ∷ 0x0a ∷ 0x00 ∷ 0x00 ∷ 0x01 ∷ 0x0b ∷ 0x0c ∷ 0x01 ∷ 0x02 ∷ []

-- the name is of five bytes, with three of padding
abbrev attribute_object : List ℕ
attribute_object = 0x00 ∷ 0x10 ∷ 0xcf ∷ 0x07 ∷ 0x07 ∷ 0x06 ∷ 0x00 ∷ 0x05 ∷ 0x6c ∷ 0x61 ∷ 0x62 ∷ 0x35 ∷ 0x61 ∷ 0x00 ∷ 0x00 ∷ 0x00 ∷ []

-- SESSION, ERROR_SPEC, SENDER_TEMPLATE, MESSAGE_ID, ADMIN_STATUS with this last byte, SESSION_ATTRIBUTE
abbrev request : ℕ → List ℕ
request bits =
    (0x10 ∷ 0x15 ∷ 0x00 ∷ 0x00 ∷ 0xff ∷ 0x00 ∷ 0x00 ∷ 0x54 ∷ []) ++ session_object
    ++ (0x00 ∷ 0x0c ∷ 0x06 ∷ 0x01 ∷ 0x0a ∷ 0x00 ∷ 0x00 ∷ 0x01 ∷ 0x00 ∷ 0x00 ∷ 0x00 ∷ 0x00 ∷ [])
    ++ template_object
    ++ (0x00 ∷ 0x0c ∷ 0x17 ∷ 0x01 ∷ 0x01 ∷ 0x03 ∷ 0x04 ∷ 0x05 ∷ 0x06 ∷ 0x07 ∷ 0x08 ∷ 0x09 ∷ [])
    ++ (0x00 ∷ 0x08 ∷ 0xc4 ∷ 0x01 ∷ 0x80 ∷ 0x00 ∷ 0x00 ∷ bits ∷ [])
    ++ attribute_object

-- MESSAGE_ID_ACK and MESSAGE_ID of every reply below
abbrev identifiers : List ℕ
identifiers =
    (0x00 ∷ 0x0c ∷ 0x18 ∷ 0x01 ∷ 0x00 ∷ 0x03 ∷ 0x04 ∷ 0x05 ∷ 0x06 ∷ 0x07 ∷ 0x08 ∷ 0x09 ∷ [])
    ++ (0x00 ∷ 0x0c ∷ 0x17 ∷ 0x01 ∷ 0x01 ∷ 0x00 ∷ 0x00 ∷ 0x07 ∷ 0x00 ∷ 0x00 ∷ 0x00 ∷ 0x01 ∷ [])

-- a setup opens its call
pub opened_reply_lem : reply_on (request 0x08)
    ≡ (0x10 ∷ 0x15 ∷ 0x9b ∷ 0x1f ∷ 0xff ∷ 0x00 ∷ 0x00 ∷ 0x60 ∷ []) ++ identifiers
    ++ (0x00 ∷ 0x0c ∷ 0x06 ∷ 0x01 ∷ 0x0a ∷ 0x00 ∷ 0x00 ∷ 0x02 ∷ 0x00 ∷ 0x00 ∷ 0x00 ∷ 0x00 ∷ []) ++ session_object
    ++ (0x00 ∷ 0x08 ∷ 0xc4 ∷ 0x01 ∷ 0x00 ∷ 0x00 ∷ 0x00 ∷ 0x08 ∷ []) ++ attribute_object ++ template_object
unfolding is_in zeros_at unpadded passed_over refused_class has_form attribute_formed formed misformed bad_length item_at seen objects_of walk_from walk_of bad_message_length checksum_holds type_of header_of notify_complete path_complete connection_in request_at is_call_request is_nameless bad_identity notify_of path_of read_of element_if list_if below no_call no_customer S same_bytes same_short same_long same_lsp is_used guarantee_in limit_in customers_from fresh_table first_below listed_or11 sound_or16 form_of share_used_up open_answer close_answer add_answer reply_after notify_bytes notify_before_checksum path_err_bytes path_err_before_checksum with_checksum checksum_of words_sum all_round first_words
opened_reply_lem = refl

-- a close with no such call is answered 32/3
pub unknown_reply : reply_on (request 0x09)
    ≡ (0x10 ∷ 0x15 ∷ 0x9a ∷ 0xfb ∷ 0xff ∷ 0x00 ∷ 0x00 ∷ 0x60 ∷ []) ++ identifiers
    ++ (0x00 ∷ 0x0c ∷ 0x06 ∷ 0x01 ∷ 0x0a ∷ 0x00 ∷ 0x00 ∷ 0x02 ∷ 0x00 ∷ 0x20 ∷ 0x00 ∷ 0x03 ∷ []) ++ session_object
    ++ (0x00 ∷ 0x08 ∷ 0xc4 ∷ 0x01 ∷ 0x00 ∷ 0x00 ∷ 0x00 ∷ 0x09 ∷ []) ++ attribute_object ++ template_object
unfolding is_in zeros_at unpadded passed_over refused_class has_form attribute_formed formed misformed bad_length item_at seen objects_of walk_from walk_of bad_message_length checksum_holds type_of header_of notify_complete path_complete connection_in request_at is_call_request is_nameless bad_identity notify_of path_of read_of element_if list_if below no_call no_customer S same_bytes same_short same_long same_lsp is_used guarantee_in limit_in customers_from fresh_table first_below listed_or11 sound_or16 form_of share_used_up open_answer close_answer add_answer reply_after notify_bytes notify_before_checksum path_err_bytes path_err_before_checksum with_checksum checksum_of words_sum all_round first_words
unknown_reply = refl

-- ---- the worked example: a Path under a call that is not open

pub path_reply : reply_on
    (0x10 ∷ 0x01 ∷ 0x00 ∷ 0x00 ∷ 0xff ∷ 0x00 ∷ 0x00 ∷ 0x24 ∷ 0x00 ∷ 0x10 ∷ 0x01 ∷ 0x07 ∷ 0x0a ∷ 0x00 ∷ 0x00 ∷ 0x02 ∷ 0x00 ∷ 0x05 ∷ 0x00 ∷ 0x01 ∷ 0x0a ∷ 0x00 ∷ 0x00 ∷ 0x01
    ∷ 0x00 ∷ 0x0c ∷ 0x0b ∷ 0x07 ∷ 0x0a ∷ 0x00 ∷ 0x00 ∷ 0x01 ∷ 0x00 ∷ 0x00 ∷ 0x00 ∷ 0x01 ∷ [])
    ≡ 0x10 ∷ 0x03 ∷ 0xb6 ∷ 0x64 ∷ 0xff ∷ 0x00 ∷ 0x00 ∷ 0x30 ∷ 0x00 ∷ 0x10 ∷ 0x01 ∷ 0x07 ∷ 0x0a ∷ 0x00 ∷ 0x00 ∷ 0x02 ∷ 0x00 ∷ 0x05 ∷ 0x00 ∷ 0x01 ∷ 0x0a ∷ 0x00 ∷ 0x00 ∷ 0x01
    ∷ 0x00 ∷ 0x0c ∷ 0x06 ∷ 0x01 ∷ 0x0a ∷ 0x00 ∷ 0x00 ∷ 0x02 ∷ 0x00 ∷ 0x20 ∷ 0x00 ∷ 0x03 ∷ 0x00 ∷ 0x0c ∷ 0x0b ∷ 0x07 ∷ 0x0a ∷ 0x00 ∷ 0x00 ∷ 0x01 ∷ 0x00 ∷ 0x00 ∷ 0x00 ∷ 0x01 ∷ []
unfolding is_in zeros_at unpadded passed_over refused_class has_form attribute_formed formed misformed bad_length item_at seen objects_of walk_from walk_of bad_message_length checksum_holds type_of header_of notify_complete path_complete connection_in request_at is_call_request is_nameless bad_identity notify_of path_of read_of element_if list_if below no_call no_customer S same_bytes same_short same_long same_lsp is_used guarantee_in limit_in customers_from fresh_table first_below listed_or11 sound_or16 form_of share_used_up open_answer close_answer add_answer reply_after notify_bytes notify_before_checksum path_err_bytes path_err_before_checksum with_checksum checksum_of words_sum all_round first_words
path_reply = refl
