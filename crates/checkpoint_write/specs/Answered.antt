-- What writing a checkpoint is answered, as a result and as the numbers of 02, A13.
use Rattle.std.specs.Prelude.{ℕ, List, Result, Ok, Err}
use Rattle.spec_checkpoint.specs.Restored.{Written}
use Rattle.checkpoint_write.specs.declared.WriteRefusal.{WriteRefusal}
use Rattle.checkpoint_write.specs.declared.WriteRefusal.TheVariants.{BrokenRules, ShortBuffer}

-- the number of a refusal
abbrev pub write_number : WriteRefusal → ℕ
write_number BrokenRules = 1
write_number ShortBuffer = 73

-- an answer, with the buffer that is left
abbrev pub written_as : Result ℕ WriteRefusal → List ℕ → Written
written_as (Ok n) buffer = record { answer = 0; length = n; buffer = buffer }
written_as (Err e) buffer = record { answer = write_number e; length = 0; buffer = buffer }
