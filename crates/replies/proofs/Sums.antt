-- The words of every reply add up to FFFF.
-- Assumes nothing.
use Prim.Native.Nat.{ℕ, zero, suc, ◌+◌, ◌-◌, ◌≤◌, ◌<◌}
use native.Mathlib.Omega.{arith}
use mathlib.Core.Path.{◌≡◌, refl}
use mathlib.Core.List.{List, [], ◌∷◌, ◌++◌}
use lib.ListN.{length, take, drop, replicate}
use lib.Seq.{take-length}
use Rattle.numbers.specs.BigEndian.{Bytes, bytes16}
use Rattle.numbers.specs.Checksum.{words_sum}
use Rattle.numbers.proofs.BigEndian.{EachByte, each_byte, each_append, each_part}
use Rattle.objects.specs.declared.fields.MessageId.{MessageId}
use Rattle.objects.specs.Part.{part_of}
use Rattle.objects.specs.Classes.{message_id, message_id_ack, session_attribute}
use Rattle.objects.specs.Forms.{rounded_up_to4}
use Rattle.reply_objects.specs.declared.writers.ErrorSpec.{ErrorSpec}
use Rattle.reply_objects.specs.Objects.{object_header, identifier_bytes, error_spec_bytes, admin_status_bytes, session_with, attribute_front, attribute_with}
use Rattle.reply_objects.specs.Header.{with_checksum}
use Rattle.reply_objects.proofs.Sums.{filled_adds_up}
use Rattle.replies.specs.declared.notify.Notify.{Notify}
use Rattle.replies.specs.Messages.{ObjectsFit, before_checksum, path_err_before_checksum, notify_with, notify_before_checksum, path_err_bytes, notify_bytes, notify_made_bytes}
use Rattle.replies.specs.Claims.{ErrorFits, NumbersFit, PathErrAddsUp, NotifyAddsUp, NotifyMadeAddsUp}
use Rattle.replies.proofs.Lengths.{path_err_length, notify_with_length, received_fit, made_fit}

header_bytes_lem : (kind : ℕ) (objects : List ℕ) → kind < 256 → 8 + length objects < 0x10000 → EachByte objects → EachByte (before_checksum kind objects)
header_bytes_lem kind objects k n b = (omega arith, (k, (omega arith, (omega arith, (omega arith, (omega arith, (omega arith, (omega arith, b))))))))

error_bytes : (e : ErrorSpec) → ErrorFits e → EachByte (error_spec_bytes e)
error_bytes e f = (omega arith, (omega arith, (omega arith, (omega arith, (omega (arith, f.node), (omega arith, (omega arith, (omega arith, (omega arith, (f.code, (omega (arith, f.value), (omega arith, tt))))))))))))

identifier_bytes_lem : (class flags : ℕ) (id : MessageId) → class < 256 → flags < 256 → id.identifier < 0x100000000 → EachByte (identifier_bytes class flags id)
identifier_bytes_lem class flags id c f h = (omega arith, (omega arith, (c, (omega arith, (f, (omega arith, (omega arith, (omega arith, (omega arith, (omega arith, (omega arith, (omega arith, tt))))))))))))

status_bytes : (bits : ℕ) → bits < 0x100000000 → EachByte (admin_status_bytes bits)
status_bytes bits h = (omega arith, (omega arith, (omega arith, (omega arith, (omega arith, (omega arith, (omega arith, (omega arith, tt))))))))

-- ---- the objects with made IDs

all_bytes_lem : (s : List ℕ) → Bytes s → EachByte s
all_bytes_lem s b = let whole = each_part s 0 (length s) b in rw (take-length s) at whole

all_zeros : (n : ℕ) → EachByte (replicate n 0)
all_zeros zero = tt
all_zeros (suc n) = (omega arith, all_zeros n)

session_bytes : (received : List ℕ) (call : ℕ) → Bytes received → call < 0x10000 → EachByte (session_with received call)
session_bytes received call b h =
    let behind = drop 10 received in
    let whole = each_part received 10 (length behind) b in
    let rest : EachByte behind = rw (take-length behind) at whole in
    let front = each_append (take 8 received) (bytes16 call) (each_part received 0 8 b) (omega arith, (omega arith, tt)) in
    each_append (take 8 received ++ bytes16 call) behind front rest

attribute_bytes : (received name : List ℕ) → Bytes received → Bytes name → length name ≤ 32 → EachByte (attribute_with received name)
attribute_bytes received name b nb h =
    let size = length name in
    let header = object_header (8 + rounded_up_to4 size) session_attribute 7 in
    let kept = take 3 (drop 4 received) in
    let zeros = replicate {A = ℕ} (rounded_up_to4 size - size) 0 in
    let front =
    each_append (header ++ kept) (size ∷ []) (each_append header kept (omega arith, (omega arith, (omega arith, (omega arith, tt)))) (each_part received 4 3 b)) (omega arith, tt)
    in
    each_append (attribute_front received size ++ name) zeros (each_append (attribute_front received size) name front (all_bytes_lem name nb)) (all_zeros (rounded_up_to4 size - size))

pub path_err_adds_up : PathErrAddsUp
unfolding path_err_bytes path_err_before_checksum
path_err_adds_up msg e reply b fits f =
    let s = part_of msg e.session in
    let t = part_of msg e.template in
    let objects = s ++ error_spec_bytes e.error ++ t in
    filled_adds_up (before_checksum 3 objects)
    (each_byte (before_checksum 3 objects) (header_bytes_lem 3 objects (omega arith) (omega (arith, path_err_length fits))
    (each_append (s ++ error_spec_bytes e.error) t
    (each_append s (error_spec_bytes e.error) (each_part msg e.session.at e.session.size b) (error_bytes e.error f))
    (each_part msg e.template.at e.template.size b))))
    (omega (arith, path_err_length fits)) (omega (arith, path_err_length fits)) refl

-- a Notify's, whatever bytes SESSION and SESSION_ATTRIBUTE have
notify_with_adds_up : (msg : List ℕ) (n : Notify) (session attribute reply : List ℕ) → Bytes msg → EachByte session → EachByte attribute → ObjectsFit msg n session attribute reply → NumbersFit n
    → words_sum (with_checksum (notify_with msg n session attribute)) ≡ 65535
notify_with_adds_up msg n a4 a6 reply b s a fits f =
    let a1 = identifier_bytes message_id_ack 0 n.acknowledged in
    let a2 = identifier_bytes message_id 1 n.own in
    let a3 = error_spec_bytes n.error in
    let a5 = admin_status_bytes n.status in
    let a7 = part_of msg n.template in
    let objects = a1 ++ a2 ++ a3 ++ a4 ++ a5 ++ a6 ++ a7 in
    let own = each_append a1 a2 (identifier_bytes_lem message_id_ack 0 n.acknowledged (omega arith) (omega arith) f.acknowledged) (identifier_bytes_lem message_id 1 n.own (omega arith) (omega arith) f.own) in
    let error = each_append (a1 ++ a2) a3 own (error_bytes n.error f.error) in
    let session = each_append (a1 ++ a2 ++ a3) a4 error s in
    let status = each_append (a1 ++ a2 ++ a3 ++ a4) a5 session (status_bytes n.status f.status) in
    let attribute = each_append (a1 ++ a2 ++ a3 ++ a4 ++ a5) a6 status a in
    let template = each_append (a1 ++ a2 ++ a3 ++ a4 ++ a5 ++ a6) a7 attribute (each_part msg n.template.at n.template.size b) in
    filled_adds_up (before_checksum 21 objects)
    (each_byte (before_checksum 21 objects) (header_bytes_lem 21 objects (omega arith) (omega (arith, notify_with_length fits, fits.attribute_most)) template))
    (omega (arith, notify_with_length fits)) (omega (arith, notify_with_length fits, fits.attribute_most)) refl

pub notify_adds_up : NotifyAddsUp
unfolding notify_bytes notify_before_checksum
notify_adds_up msg n reply b fits f =
    notify_with_adds_up msg n (part_of msg n.session) (part_of msg n.attribute) reply b
    (each_part msg n.session.at n.session.size b) (each_part msg n.attribute.at n.attribute.size b) (received_fit fits) f

pub notify_made_adds_up : NotifyMadeAddsUp
unfolding notify_made_bytes
notify_made_adds_up msg n reply call name b fits f c nb h =
    let s = part_of msg n.session in
    let a = part_of msg n.attribute in
    notify_with_adds_up msg n (session_with s call) (attribute_with a name) reply b
    (session_bytes s call (each_byte s (each_part msg n.session.at n.session.size b)) c)
    (attribute_bytes a name (each_byte a (each_part msg n.attribute.at n.attribute.size b)) nb h)
    (made_fit call name fits h) f
