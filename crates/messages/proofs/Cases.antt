-- What holds of every header, and of every message whose objects are all good, by the few cases that there are.
-- Assumes nothing.
use Prim.Native.Nat.{ℕ, ◌/◌}
use mathlib.Core.List.{List}
use mathlib.Core.Bool.{Bool, true, false, cond, not}
use lib.Dec.{eqb}
use lib.ListN.{get_or}
use Rattle.objects.specs.declared.fault.Fault.TheVariants.{MessageLength, Version, Checksum, MessageType, ObjectCount, NotCallRequest, CallIdentity}
use Rattle.objects.specs.declared.walk.Objects.{Objects}
use Rattle.messages.specs.declared.header.MessageType as header
use Rattle.messages.specs.declared.header.MessageType.TheVariants.{Path, PathTear, Notify}
use Rattle.messages.specs.Header.{Header}
use Rattle.std.specs.Prelude.{Ok, Err}
use Rattle.messages.specs.declared.message.CallRequest.{CallRequest}
use Rattle.messages.specs.declared.message.Connection.{Connection}
use Rattle.messages.specs.declared.message.Message.{Message}
use Rattle.messages.specs.declared.message.Message.TheVariants.{Open, Close, Add, Drop}
use Rattle.messages.specs.Read.{Reading, refused, unfit, received}
use Rattle.messages.specs.Header.{bad_message_length, checksum_holds, type_of, header_of}
use Rattle.messages.specs.Counts.{notify_complete, path_complete}
use Rattle.messages.specs.Fields.{sender_at, connection_in, request_at}
use Rattle.messages.specs.Read.{is_call_request, bad_identity, closes_at, notify_of, path_of, objects_read}

-- 3 to 6, or a type
pub record EachHeader (P : Header → Type 0) : Type 0 where
  pub length : P (Err MessageLength)
  pub version : P (Err Version)
  pub checksum : P (Err Checksum)
  pub unknown : P (Err MessageType)
  pub good : (mtype : header.MessageType) → P (Ok mtype)

pub each_header : (P : Header → Type 0) → EachHeader P → (s : List ℕ) → P (header_of s)
unfolding header_of type_of
each_header P each s =
    by (bad_message_length s) (not (eqb (get_or s 0 0 / 16) 1)) (not (checksum_holds s)) (eqb (get_or s 1 0) 1) (eqb (get_or s 1 0) 5) (eqb (get_or s 1 0) 21)
  where
    by : (a b c p t n : Bool)
        → P (cond a (Err MessageLength) (cond b (Err Version) (cond c (Err Checksum) (cond p (Ok Path) (cond t (Ok PathTear) (cond n (Ok Notify) (Err MessageType)))))))
    by true b c p t n = each.length
    by false true c p t n = each.version
    by false false true p t n = each.checksum
    by false false false true t n = each.good Path
    by false false false false true n = each.good PathTear
    by false false false false false true = each.good Notify
    by false false false false false false = each.unknown

-- 10, 12, 13, or a message, each with the number of headers
pub record EachReading (P : Reading → Type 0) (headers : ℕ) : Type 0 where
  pub count : P (refused ObjectCount 0 headers)
  pub request : (sender : ℕ) → P (unfit NotCallRequest sender headers)
  pub identity : (sender : ℕ) → P (unfit CallIdentity sender headers)
  pub message : (m : Message) → P (received m headers)

module _ (P : Reading → Type 0) (s : List ℕ) (v : Objects) (each : EachReading P v.headers) where
  each_path : (adds : Bool) → P (path_of s v adds)
  unfolding path_of
  each_path adds = by (not (path_complete v)) adds (connection_in s v.session.at v.template.at)
    where
      by : (a b : Bool) (c : Connection) → P (cond a (refused ObjectCount 0 v.headers) (cond b (received (Add c) v.headers) (received (Drop c) v.headers)))
      by true b c = each.count
      by false true c = each.message (Add c)
      by false false c = each.message (Drop c)

  each_notify : P (notify_of s v)
  unfolding notify_of
  each_notify =
      by (not (notify_complete v)) (not (is_call_request s v.status.at v.error.at))
      (bad_identity s (closes_at s v.status.at) v.session.at v.attribute.at) (closes_at s v.status.at)
      (sender_at s v.template.at) (request_at s v.session.at v.template.at v.identifier.at v.attribute.at)
    where
      by : (a b c d : Bool) (sender : ℕ) (q : CallRequest)
          → P (cond a (refused ObjectCount 0 v.headers) (cond b (unfit NotCallRequest sender v.headers) (cond c (unfit CallIdentity sender v.headers) (cond d (received (Close q) v.headers) (received (Open q) v.headers)))))
      by true b c d sender q = each.count
      by false true c d sender q = each.request sender
      by false false true d sender q = each.identity sender
      by false false false true sender q = each.message (Close q)
      by false false false false sender q = each.message (Open q)

  pub each_reading : (mtype : header.MessageType) → P (objects_read s mtype v)
  each_reading Path = each_path true
  each_reading PathTear = each_path false
  each_reading Notify = each_notify
