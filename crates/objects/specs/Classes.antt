-- What becomes of an object by its class (01, Message layout: the table, and the paragraph behind it).
use Rattle.std.specs.Prelude.{ℕ, List, [], ◌∷◌, Bool, not, ◌&&◌, ◌||◌, leb}
use Rattle.numbers.specs.Search.{is_in}

-- the classes of the table
abbrev pub session : ℕ
session = 1

abbrev pub error_spec : ℕ
error_spec = 6

abbrev pub sender_template : ℕ
sender_template = 11

abbrev pub message_id : ℕ
message_id = 23

abbrev pub message_id_ack : ℕ
message_id_ack = 24

abbrev pub admin_status : ℕ
admin_status = 196

abbrev pub session_attribute : ℕ
session_attribute = 207

-- those that are read: all of the table but MESSAGE_ID_ACK, which is only written
abbrev pub read_classes : List ℕ
read_classes = session ∷ error_spec ∷ sender_template ∷ message_id ∷ admin_status ∷ session_attribute ∷ []

-- those skipped unread on receipt
abbrev pub skipped_classes : List ℕ
skipped_classes = 0 ∷ 3 ∷ 4 ∷ 5 ∷ 12 ∷ 13 ∷ 14 ∷ 19 ∷ 20 ∷ 21 ∷ 24 ∷ 34 ∷ 35 ∷ 36 ∷ 37 ∷ 133 ∷ []

-- skipped; or ignored, as any other class with its top bit 1
unfoldable pub passed_over : ℕ → Bool
passed_over class = not (is_in class read_classes) && (is_in class skipped_classes || leb 128 class)

-- any other class: its top bit is 0
unfoldable pub refused_class : ℕ → Bool
refused_class class = not (is_in class read_classes) && not (passed_over class)
