-- The checksums of the two messages that the node sends; proved in proofs/Sums.antt.
use Rattle.std.specs.Prelude.{ℕ, ◌≤◌, ◌<◌, ◌≡◌, List, length}
use Rattle.numbers.specs.BigEndian.{Bytes}
use Rattle.numbers.specs.Checksum.{words_sum}
use Rattle.reply_objects.specs.declared.writers.ErrorSpec.{ErrorSpec}
use Rattle.replies.specs.declared.path_err.PathErr.{PathErr}
use Rattle.replies.specs.declared.notify.Notify.{Notify}
use Rattle.replies.specs.Messages.{PathErrFits, NotifyFits, path_err_bytes, notify_bytes, notify_made_bytes}

-- the numbers of a reply fit their fields; the writers' types see to it
pub record ErrorFits (e : ErrorSpec) : Type 0 where
  pub node : e.node < 0x100000000
  pub code : e.code < 0x100
  pub value : e.value < 0x10000

pub record NumbersFit (n : Notify) : Type 0 where
  pub error : ErrorFits n.error
  pub acknowledged : n.acknowledged.identifier < 0x100000000
  pub own : n.own.identifier < 0x100000000
  pub status : n.status < 0x100000000

-- 01, Message layout: the words of every reply add up to FFFF. A node that sends a wrong checksum, or one of the message
-- before its field was free, is none
abbrev pub PathErrAddsUp : Type 0
PathErrAddsUp = (msg : List ℕ) (e : PathErr) (reply : List ℕ) → Bytes msg → PathErrFits msg e reply → ErrorFits e.error → words_sum (path_err_bytes msg e) ≡ 65535

abbrev pub NotifyAddsUp : Type 0
NotifyAddsUp = (msg : List ℕ) (n : Notify) (reply : List ℕ) → Bytes msg → NotifyFits msg n reply → NumbersFit n → words_sum (notify_bytes msg n) ≡ 65535

-- so do those of a reply with the IDs that the node made (02, A6)
abbrev pub NotifyMadeAddsUp : Type 0
NotifyMadeAddsUp =
    (msg : List ℕ) (n : Notify) (reply : List ℕ) (call : ℕ) (name : List ℕ) → Bytes msg → NotifyFits msg n reply → NumbersFit n → call < 0x10000 → Bytes name → length name ≤ 32
    → words_sum (notify_made_bytes msg n call name) ≡ 65535
