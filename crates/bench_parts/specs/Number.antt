-- What a reading is answered, by the bytes alone (01, Every answer: 3 to 10, 12, 13), and 0 where it shows no fault.
use Rattle.std.specs.Prelude.{ℕ, Ok, Err}
use Rattle.objects.specs.Faults.{fault_number}
use Rattle.messages.specs.declared.read.Refusal.TheVariants.{Misformed, Unfit}
use Rattle.messages.specs.Read.{Reading}

abbrev pub read_number : Reading → ℕ
read_number (Err (Misformed fault offset headers)) = fault_number fault
read_number (Err (Unfit fault sender headers)) = fault_number fault
read_number (Ok read) = 0
