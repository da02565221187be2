-- `choosing::sound_flags` meets its contract: after `i` turns the first `i` places are filled.
use Rattle.lists.specs.Count.{bit}
use Rattle.table.specs.Words.{table_of}
use Rattle.spec_checkpoint.specs.Salvage.{sound_alone}
use Rattle.spec_checkpoint.specs.Layout.{call_record}
use Rattle.checkpoint_choice.specs.Ranked.{Filled}
use Rattle.checkpoint_choice.proofs.choosing.sound_flags.Given as goal

abbrev pub invariant-loop-i : goal.invariant-loop-i
invariant-loop-i l = Filled (λ j. bit (sound_alone (table_of l.t) (call_record l.c.bytes.now j))) l.flags l.i
