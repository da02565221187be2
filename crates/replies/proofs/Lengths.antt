-- How long the two messages are.
-- Assumes nothing.
use Prim.Native.Nat.{ℕ, ◌+◌, ◌≤◌}
use native.Mathlib.Omega.{arith}
use mathlib.Core.Path.{◌≡◌, ap, ◌∙◌}
use mathlib.Core.List.{List}
use lib.ListN.{length, length-append}
use Rattle.objects.specs.Part.{part_of}
use Rattle.reply_objects.specs.Objects.{session_with, attribute_with}
use Rattle.reply_objects.proofs.Lengths.{session_with_length, attribute_with_length}
use Rattle.replies.specs.Messages.{PathErrFits, NotifyFits, ObjectsFit, path_err_before_checksum, notify_with, notify_before_checksum}
use Rattle.replies.specs.declared.path_err.PathErr.{PathErr}
use Rattle.replies.specs.declared.notify.Notify.{Notify}
pub use Rattle.reply_objects.proofs.Lengths.{part_length}

pub path_err_length : {msg reply : List ℕ} {e : PathErr} → PathErrFits msg e reply → length (path_err_before_checksum msg e) ≡ 48
unfolding path_err_before_checksum
path_err_length {msg} {e = e} fits =
    let s = part_length msg e.session fits.session in
    let t = part_length msg e.template fits.template in
    simp length-append (omega arith)

pub notify_with_length : {msg session attribute reply : List ℕ} {n : Notify} → ObjectsFit msg n session attribute reply → length (notify_with msg n session attribute) ≡ 80 + length attribute
notify_with_length {msg} {n = n} fits =
    let t = part_length msg n.template fits.template in
    simp length-append (omega arith)

-- ---- what is asked of a Notify is enough for its objects, received or made

pub received_fit : {msg reply : List ℕ} {n : Notify} → NotifyFits msg n reply → ObjectsFit msg n (part_of msg n.session) (part_of msg n.attribute) reply
received_fit {msg} {n = n} fits =
    let s = part_length msg n.session fits.session in
    let a = part_length msg n.attribute fits.attribute in
    record { template = fits.template; template_size = fits.template_size; session_size = omega arith; attribute_most = omega arith; room = fits.room }

pub made_fit : {msg reply : List ℕ} {n : Notify} (call : ℕ) (name : List ℕ) → NotifyFits msg n reply → length name ≤ 32
    → ObjectsFit msg n (session_with (part_of msg n.session) call) (attribute_with (part_of msg n.attribute) name) reply
made_fit {msg} {n = n} call name fits h =
    let s = part_length msg n.session fits.session in
    let a = part_length msg n.attribute fits.attribute in
    let made = attribute_with_length (part_of msg n.attribute) name (omega arith) in
    record {
      template = fits.template;
      template_size = fits.template_size;
      session_size = session_with_length (part_of msg n.session) call (omega arith);
      attribute_most = omega arith;
      room = fits.room;
    }

pub notify_length : {msg reply : List ℕ} {n : Notify} → NotifyFits msg n reply → length (notify_before_checksum msg n) ≡ 80 + n.attribute.size
unfolding notify_before_checksum
notify_length {msg} {n = n} fits = notify_with_length (received_fit fits) ∙ ap (λ (k : ℕ). 80 + k) (part_length msg n.attribute fits.attribute)
