-- `slots::fill_slot` meets its contract.
use mathlib.Core.Path.{refl, ◌∙◌}
use Rattle.table.specs.Word.{with_used}
use Rattle.table.specs.Words.{table_of}
use Rattle.update_call.proofs.Turned.{turned}
use Rattle.update_call.proofs.slots.fill_slot.Goals as goal

pub returns : goal.returns
returns c =
    turned with_used (table_of c.args.t.now) _ _ _ _ _ refl c.put_slot.ensures c.mark_used.ensures ∙ rw c.requires.0
