-- What a message of any bytes is read as: tests 3 to 10, then for a Notify 12 and 13 (01, Every answer), then its kind.
-- Test 11, on the sender, lies between 10 and 12 and wants the roster: what 12 or 13 refuses is handed up with its
-- sender.
use Rattle.std.specs.Prelude.{ℕ, ◌+◌, List, Bool, true, false, Result, Ok, Err, cond, not, ◌&&◌, ◌||◌, get_or, ltb, eqb}
use Rattle.numbers.specs.BigEndian.{be16_at, be32_at}
use Rattle.objects.specs.Forms.{name_length}
use Rattle.objects.specs.Walk.{Walked, walk_of}
use Rattle.objects.specs.declared.fault.Fault.{Fault}
use Rattle.objects.specs.declared.fault.Fault.TheVariants.{ObjectCount, NotCallRequest, CallIdentity}
use Rattle.objects.specs.declared.walk.Objects.{Objects}
use Rattle.messages.specs.declared.header.MessageType.{MessageType}
use Rattle.messages.specs.declared.header.MessageType.TheVariants.{Path, PathTear, Notify}
use Rattle.messages.specs.declared.message.Message.TheVariants.{Open, Close, Add, Drop}
use Rattle.messages.specs.declared.message.Message.{Message}
use Rattle.messages.specs.declared.read.Received.{Received}
use Rattle.messages.specs.declared.read.Refusal.{Refusal}
use Rattle.messages.specs.declared.read.Refusal.TheVariants.{Misformed, Unfit}
use Rattle.messages.specs.Header.{Header, header_of}
use Rattle.messages.specs.Status.{bit_set, reflect_bit, call_bit, delete_bit}
use Rattle.messages.specs.Counts.{notify_complete, path_complete}
use Rattle.messages.specs.Fields.{call_id_at, sender_at, long_size, connection_in, request_at}

-- what a message of any bytes is read as, each with the number of headers read: refused by a test from 3 to 10, with the
-- faulty object's place; by 12 or 13, with its sender; or a message
abbrev pub Reading : Type 0
Reading = Result Received Refusal

abbrev pub refused : Fault → ℕ → ℕ → Reading
refused fault offset headers = Err (Misformed fault offset headers)

abbrev pub unfit : Fault → ℕ → ℕ → Reading
unfit fault sender headers = Err (Unfit fault sender headers)

abbrev pub received : Message → ℕ → Reading
received message headers = Ok (record { message = message; headers = headers })

abbrev pub status_at : List ℕ → ℕ → ℕ
status_at s status = be32_at s (status + 4)

-- 12 is given unless R and C are set and the ERROR_SPEC's code and value are 0
unfoldable pub is_call_request : List ℕ → ℕ → ℕ → Bool
is_call_request s status error =
    bit_set reflect_bit (status_at s status) && bit_set call_bit (status_at s status) && eqb (get_or s (error + 9) 0) 0 && eqb (be16_at s (error + 10)) 0

-- 02, A6: neither of the two IDs, Name Length 0 and Call ID 0
unfoldable pub is_nameless : List ℕ → ℕ → ℕ → Bool
is_nameless s session attribute = eqb (name_length s attribute) 0 && eqb (call_id_at s session) 0

-- 13: Call ID 0, or a name of no bytes but zeros, or a name length above 32 as received; but an open may have neither ID
-- (02, A6)
unfoldable pub bad_identity : List ℕ → Bool → ℕ → ℕ → Bool
bad_identity s closes session attribute =
    (closes || not (is_nameless s session attribute))
    && (eqb (call_id_at s session) 0 || eqb (long_size s attribute) 0 || ltb 32 (name_length s attribute))

-- a Notify: D set closes a call, D clear opens one
abbrev pub closes_at : List ℕ → ℕ → Bool
closes_at s status = bit_set delete_bit (status_at s status)

unfoldable pub notify_of : List ℕ → Objects → Reading
notify_of s v =
    cond (not (notify_complete v)) (refused ObjectCount 0 v.headers)
    (cond (not (is_call_request s v.status.at v.error.at)) (unfit NotCallRequest (sender_at s v.template.at) v.headers)
    (cond (bad_identity s (closes_at s v.status.at) v.session.at v.attribute.at) (unfit CallIdentity (sender_at s v.template.at) v.headers)
    (cond (closes_at s v.status.at)
    (received (Close (request_at s v.session.at v.template.at v.identifier.at v.attribute.at)) v.headers)
    (received (Open (request_at s v.session.at v.template.at v.identifier.at v.attribute.at)) v.headers))))

-- a Path, which adds a connection, or a PathTear, which drops one
unfoldable pub path_of : List ℕ → Objects → Bool → Reading
path_of s v adds =
    cond (not (path_complete v)) (refused ObjectCount 0 v.headers)
    (cond adds
    (received (Add (connection_in s v.session.at v.template.at)) v.headers)
    (received (Drop (connection_in s v.session.at v.template.at)) v.headers))

-- a message whose objects have all been walked over
abbrev pub objects_read : List ℕ → MessageType → Objects → Reading
objects_read s Path v = path_of s v true
objects_read s PathTear v = path_of s v false
objects_read s Notify v = notify_of s v

abbrev pub walked_read : List ℕ → MessageType → Walked → Reading
walked_read s mtype (Err stop) = refused stop.fault stop.offset stop.headers
walked_read s mtype (Ok v) = objects_read s mtype v

abbrev pub header_read : List ℕ → Header → Reading
header_read s (Err fault) = refused fault 0 0
header_read s (Ok mtype) = walked_read s mtype (walk_of s)

unfoldable pub read_of : List ℕ → Reading
read_of s = header_read s (header_of s)
