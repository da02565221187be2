-- The number of each fault of form that a message's bytes alone show (01, Every answer). Of the others, 1 and 2 are
-- tested on table and buffer, and 11 wants the roster.
use Rattle.std.specs.Prelude.{ℕ, Bool, [], ◌∷◌}
use Rattle.numbers.specs.Search.{is_in}
use Rattle.objects.specs.declared.fault.Fault.{Fault}
use Rattle.objects.specs.declared.fault.Fault.TheVariants.{MessageLength, Version, Checksum, MessageType, ObjectLength, ObjectClass, ObjectForm, ObjectCount, NotCallRequest, CallIdentity}

abbrev pub fault_number : Fault → ℕ
fault_number MessageLength = 3
fault_number Version = 4
fault_number Checksum = 5
fault_number MessageType = 6
fault_number ObjectLength = 7
fault_number ObjectClass = 8
fault_number ObjectForm = 9
fault_number ObjectCount = 10
fault_number NotCallRequest = 12
fault_number CallIdentity = 13

-- 02, A3: 7, 8 and 9 are faults of one object, whose place the answer carries
abbrev pub is_of_object : ℕ → Bool
is_of_object number = is_in number (7 ∷ 8 ∷ 9 ∷ [])
