-- Where a refused message's fault is: at the first faulty object, or at no object (02, A3).
-- Assumes nothing.
use Prim.Native.Nat.{ℕ}
use mathlib.Core.Path.{◌≡◌, refl}
use mathlib.Core.Logic.{◌⊎◌, inl, inr}
use mathlib.Core.List.{List}
use mathlib.Core.Bool.{true, false}
use lib.Dec.{leb}
use Rattle.numbers.specs.Search.{is_in}
use Rattle.objects.specs.declared.fault.Fault.{Fault}
use Rattle.objects.specs.Faults.{fault_number, is_of_object}
use Rattle.objects.specs.Walk.{Walked, walk_of}
use Rattle.objects.specs.FirstFault.{FirstFault}
use Rattle.objects.proofs.FirstFault.{stopped_at_first}
use Rattle.messages.specs.declared.header.MessageType.{MessageType}
use Rattle.messages.specs.Header.{Header}
use Rattle.std.specs.Prelude.{Ok, Err}
use Rattle.messages.specs.Read.{Reading, unfit}
use Rattle.messages.specs.declared.read.Refusal.TheVariants.{Misformed, Unfit}
use Rattle.messages.specs.Header.{header_of}
use Rattle.messages.specs.Claims.{RefusedAt}
use Rattle.messages.specs.Read.{walked_read, header_read, read_of}
use Rattle.messages.proofs.Cases.{each_header, each_reading}

-- the header's faults, 3 to 6, are no object's
abbrev IsOfNoObject : Header → Type 0
IsOfNoObject (Err fault) = is_of_object (fault_number fault) ≡ false
IsOfNoObject (Ok mtype) = Unit {0}

header_of_none : (s : List ℕ) → IsOfNoObject (header_of s)
unfolding is_in
header_of_none s = each_header IsOfNoObject (record { length = refl; version = refl; checksum = refl; unknown = refl; good = λ mtype. tt }) s

-- what is said of a reading: nothing where the message is read
abbrev Placed : List ℕ → Reading → Type 0
Placed s (Err (Misformed fault offset headers)) = ((is_of_object (fault_number fault) ≡ true) × FirstFault s fault offset headers) ⊎ ((is_of_object (fault_number fault) ≡ false) × (offset ≡ 0))
Placed s (Err (Unfit fault sender headers)) = leb 12 (fault_number fault) ≡ true
Placed s (Ok read) = Unit {0}

module _ (s : List ℕ) where
  walked_placed : (mtype : MessageType) (w : Walked) → walk_of s ≡ w → Placed s (walked_read s mtype w)
  unfolding is_in
  walked_placed mtype (Err stop) e = let f = stopped_at_first s stop.fault stop.offset stop.headers e in inl (f.numbered, f)
  walked_placed mtype (Ok v) e =
      each_reading (Placed s) s v (record { count = inr (refl, refl); request = λ sender. refl; identity = λ sender. refl; message = λ m. tt }) mtype

  header_placed : (h : Header) → IsOfNoObject h → Placed s (header_read s h)
  header_placed (Err fault) none = inr (none, refl)
  header_placed (Ok mtype) none = walked_placed mtype (walk_of s) refl

  read_placed : Placed s (read_of s)
  unfolding read_of
  read_placed = header_placed (header_of s) (header_of_none s)

pub refused_at : RefusedAt
refused_at s fault offset headers e = rw e at (read_placed s)

-- only 12 and 13 are handed up with the sender
pub unfit_at : (s : List ℕ) (fault : Fault) (sender headers : ℕ) → read_of s ≡ unfit fault sender headers → leb 12 (fault_number fault) ≡ true
unfit_at s fault sender headers e = rw e at (read_placed s)
