-- How long the parts of a message are, and the objects with made IDs.
-- Assumes nothing.
use Prim.Native.Nat.{ℕ, ◌+◌, ◌-◌, ◌≤◌}
use native.Mathlib.Omega.{arith}
use mathlib.Core.Path.{◌≡◌, ap}
use mathlib.Core.List.{List}
use lib.ListN.{length, take, drop, length-append, length-take, length-drop, length-replicate}
use lib.Seq.{length-take-le}
use Rattle.objects.specs.Forms.{rounded_up_to4}
use Rattle.objects.specs.Part.{part_of, Within}
use Rattle.objects.specs.declared.fields.Part.{Part}
use Rattle.reply_objects.specs.Objects.{session_with, attribute_front, attribute_with}

pub part_length : (msg : List ℕ) (p : Part) → Within msg p → length (part_of msg p) ≡ p.size
part_length msg p h = length-take-le _ _ (simp length-drop (omega arith))

-- the slice from a part's first byte to its end
pub slice_is : (msg : List ℕ) (p : Part) → take (p.at + p.size - p.at) (drop p.at msg) ≡ part_of msg p
slice_is msg p =
    let size : p.at + p.size - p.at ≡ p.size = omega arith in
    ap (λ (k : ℕ). take k (drop p.at msg)) size

-- with another Call ID a SESSION is as long as it was
pub session_with_length : (received : List ℕ) (call : ℕ) → length received ≡ 16 → length (session_with received call) ≡ 16
session_with_length received call e = simp (length-append, length-take, length-drop) (omega arith)

pub attribute_front_length : (received : List ℕ) (size : ℕ) → 8 ≤ length received → length (attribute_front received size) ≡ 8
attribute_front_length received size h = simp (length-append, length-take, length-drop) (omega arith)

pub attribute_with_length : (received name : List ℕ) → 8 ≤ length received → length (attribute_with received name) ≡ 8 + rounded_up_to4 (length name)
attribute_with_length received name h = simp (length-append, length-take, length-drop, length-replicate) (omega arith)
