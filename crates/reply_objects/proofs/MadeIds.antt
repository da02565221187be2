-- The objects with made IDs, as the stores and copies that write them leave them.
-- Assumes nothing.
use Prim.Native.Nat.{ℕ, ◌+◌, ◌-◌, ◌≤◌, ◌<◌}
use native.Mathlib.Omega.{arith}
use mathlib.Core.Path.{◌≡◌, ap, sym, ◌∙◌}
use mathlib.Core.List.{List, [], ◌∷◌}
use lib.ListN.{length, get_or, take, drop, replicate, replicate-append-replicate, length-replicate}
use lib.Seq.{sets, sets-eq, drop-cons, get_or-take, get_or-drop, take_at}
use Rattle.numbers.specs.BigEndian.{bytes16}
use Rattle.numbers.specs.Buffer.{at_front}
use Rattle.numbers.proofs.Buffer.{sets_front}
use Rattle.objects.specs.Part.{part_of, Within}
use Rattle.objects.specs.declared.fields.Part.{Part}
use Rattle.reply_objects.specs.Objects.{session_with}
use Rattle.reply_objects.proofs.Lengths.{part_length}

-- a Call ID stored into a copied SESSION
pub call_id_stored : (received l : List ℕ) (call : ℕ) → length received ≡ 16 → sets (at_front received l) 8 (bytes16 call) ≡ at_front (session_with received call) l
call_id_stored received l call e =
    sets_front received l (bytes16 call) 8 (omega arith)
    ∙ ap (λ (s : List ℕ). at_front s l) (sets-eq (bytes16 call) received 8 (omega arith))

-- a part's bytes are the message's
byte_of_part : (msg : List ℕ) (p : Part) (i : ℕ) → i < p.size → get_or (part_of msg p) i 0 ≡ get_or msg (p.at + i) 0
byte_of_part msg p i h = get_or-take p.size (drop p.at msg) i 0 h ∙ get_or-drop p.at msg i 0

-- priorities and flags, one byte after the other
pub priorities : (msg : List ℕ) (p : Part) → Within msg p → 8 ≤ p.size
    → take 3 (drop 4 (part_of msg p)) ≡ get_or msg (p.at + 4) 0 ∷ get_or msg (p.at + 5) 0 ∷ get_or msg (p.at + 6) 0 ∷ []
priorities msg p within h =
    let n = part_length msg p within in
    let s = part_of msg p in
    rw (drop-cons s 4 0 (omega arith), drop-cons s 5 0 (omega arith), drop-cons s 6 0 (omega arith), byte_of_part msg p 4 (omega arith), byte_of_part msg p 5 (omega arith), byte_of_part msg p 6 (omega arith))

-- padding copied from an array of zeros
pub zeros_taken : (k n : ℕ) → k ≤ n → take {A = ℕ} k (replicate n 0) ≡ replicate k 0
zeros_taken k n h =
    let all : k + (n - k) ≡ n = omega arith in
    let split = replicate-append-replicate {A = ℕ} k (n - k) 0 ∙ ap (λ (m : ℕ). replicate {A = ℕ} m 0) all in
    ap (take k) (sym split) ∙ take_at (replicate k 0) (replicate (n - k) 0) k (length-replicate k 0)
