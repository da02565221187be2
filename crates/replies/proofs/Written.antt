-- How a message grows at the front of a buffer: its header says the length of the whole.
-- Assumes nothing.
use Prim.Native.Nat.{ℕ, ◌+◌}
use native.Mathlib.Omega.{arith}
use mathlib.Core.Path.{◌≡◌}
use mathlib.Core.List.{List, ◌++◌}
use lib.ListN.{length}
use Rattle.numbers.specs.Buffer.{at_front}
use Rattle.reply_objects.specs.Header.{header_bytes}
use Rattle.reply_objects.proofs.Written.{Written}
use Rattle.replies.specs.Messages.{before_checksum}
pub use Rattle.reply_objects.proofs.Written.{tail_length}

-- a header that says the length of the whole, with all objects behind it
pub complete : {xs l : List ℕ} {r n : ℕ} (kind len : ℕ) (objects : List ℕ) → Written xs (header_bytes kind len ++ objects) l r n → length (before_checksum kind objects) ≡ len
    → (r ≡ len) × (xs ≡ at_front (before_checksum kind objects) l)
complete kind len objects w h =
    let t : len ≡ 8 + length objects = omega arith in
    (omega arith, rw (← t) w.is)
