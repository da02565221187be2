use native.Mathlib.Omega.{arith}
use mathlib.Core.Path.{ap, ◌∙◌}
use Rattle.lists.specs.Count.{bit}
use Rattle.table.specs.Words.{table_of}
use Rattle.spec_checkpoint.specs.Salvage.{sound_alone}
use Rattle.spec_changes.proofs.Firsts.{as_bit}
use Rattle.checkpoint_choice.proofs.Best.{filled_turn}
use Rattle.checkpoint_choice.proofs.choosing.sound_flags.Goals as goal

pub loop-i-preserved : goal.loop-i-preserved
loop-i-preserved c =
    filled_turn _ c.loop-i.flags c.loop-i.i _ (omega arith) c.loop-i.invariant
    (c.from.ensures ∙ as_bit _ ∙ ap bit (c.sound_alone.ensures ∙ ap (λ r. sound_alone (table_of c.args.t.now) r) c.call.ensures))
