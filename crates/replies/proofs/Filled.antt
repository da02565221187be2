-- What the filling of the checksum field makes of a message at the front of a buffer.
-- Assumes nothing.
use Prim.Native.Nat.{ℕ, ◌+◌, ◌≤◌}
use native.Mathlib.Omega.{arith}
use mathlib.Core.Path.{◌≡◌, sym, ◌∙◌}
use mathlib.Core.List.{List}
use lib.ListN.{length, take}
use lib.Seq.{sets, length-sets}
use Rattle.numbers.specs.BigEndian.{be16_at, bytes16}
use Rattle.numbers.specs.Buffer.{at_front}
use Rattle.numbers.proofs.Buffer.{sets_front, front_taken}
use Rattle.objects.specs.Forms.{rounded_up_to4}
use Rattle.objects.specs.Part.{part_of}
use Rattle.reply_objects.specs.Objects.{session_with, attribute_with}
use Rattle.reply_objects.specs.Header.{checksum_of, with_checksum}
use Rattle.reply_objects.proofs.Lengths.{attribute_with_length}
use Rattle.replies.specs.declared.path_err.PathErr.{PathErr}
use Rattle.replies.specs.declared.notify.Notify.{Notify}
use Rattle.replies.specs.Messages.{NotifyFits, path_err_before_checksum, notify_with, notify_made_bytes}
use Rattle.replies.proofs.Lengths.{part_length, notify_with_length, made_fit}

-- a message keeps its length when its checksum is filled in
pub checksum_length : (bs : List ℕ) → length (with_checksum bs) ≡ length bs
unfolding with_checksum
checksum_length bs = length-sets bs 2 (bytes16 (checksum_of bs))

-- filling in the checksum of the n bytes at the front of a buffer is the same as writing them with it
checksum_front : (bs l xs : List ℕ) (n : ℕ) → xs ≡ at_front bs l → length bs ≡ n → 4 ≤ n → sets xs 2 (bytes16 (checksum_of (take n xs))) ≡ at_front (with_checksum bs) l
unfolding with_checksum
checksum_front bs l xs n p e h = rw (p, front_taken bs l n e) (sets_front bs l (bytes16 (checksum_of bs)) 2 (omega arith))

-- a message at the front of a buffer has a free checksum field before it is filled in
pub path_err_field_free : (msg : List ℕ) (e : PathErr) (l xs : List ℕ) → xs ≡ at_front (path_err_before_checksum msg e) l → be16_at xs 2 ≡ 0
unfolding at_front path_err_before_checksum
path_err_field_free msg e l xs p = rw p

pub notify_field_free : (msg : List ℕ) (n : Notify) (session attribute l xs : List ℕ) → xs ≡ at_front (notify_with msg n session attribute) l → be16_at xs 2 ≡ 0
unfolding at_front
notify_field_free msg n session attribute l xs p = rw p

-- what a message's writer promises, from what the writer of its bytes before the checksum and `fill_checksum` promise
pub checksum_written : {xs ys : List ℕ} {n len : ℕ} (bs l : List ℕ) → (n ≡ len) × (xs ≡ at_front bs l) → length bs ≡ len → 4 ≤ len
    → ys ≡ sets xs 2 (bytes16 (checksum_of (take n xs))) → (n ≡ length (with_checksum bs)) × (ys ≡ at_front (with_checksum bs) l)
checksum_written {xs} {n = n} bs l (r, p) e h s = (r ∙ sym e ∙ sym (checksum_length bs), s ∙ checksum_front bs l xs n p (e ∙ sym r) (rw r h))

-- what the writer of a Notify promises of the slices that it is lent, said of what they hold
pub lent : {ys session attribute s a : List ℕ} {r : ℕ} (msg : List ℕ) (n : Notify) (l : List ℕ) → session ≡ s → attribute ≡ a
    → (r ≡ length (with_checksum (notify_with msg n session attribute))) × (ys ≡ at_front (with_checksum (notify_with msg n session attribute)) l)
    → (r ≡ length (with_checksum (notify_with msg n s a))) × (ys ≡ at_front (with_checksum (notify_with msg n s a)) l)
lent msg n l p q h = rw (p, q) at h

-- 108 bytes for a made name, which has 20
pub notify_made_length : {msg reply : List ℕ} {n : Notify} (call : ℕ) (name : List ℕ) → NotifyFits msg n reply → length name ≤ 32 → length (notify_made_bytes msg n call name) ≡ 88 + rounded_up_to4 (length name)
unfolding notify_made_bytes
notify_made_length {msg} {n = n} call name fits h =
    let a = part_length msg n.attribute fits.attribute in
    let session = session_with (part_of msg n.session) call in
    let attribute = attribute_with (part_of msg n.attribute) name in
    let made = attribute_with_length (part_of msg n.attribute) name (omega arith) in
    let all : length (notify_with msg n session attribute) ≡ 80 + length attribute = notify_with_length (made_fit call name fits h) in
    checksum_length (notify_with msg n session attribute) ∙ all ∙ omega (arith, made)
