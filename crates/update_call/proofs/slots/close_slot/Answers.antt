-- `slots::close_slot` meets its contract: thirty-two zeros are no call.
use Rattle.table.specs.Word.{with_free}
use Rattle.table.specs.Words.{table_of}
use Rattle.table_words.proofs.Zeroed.{call_none_lem}
use Rattle.spec_changes.specs.Calls.{freed}
use Rattle.update_call.proofs.Turned.{turned}
use Rattle.update_call.proofs.slots.close_slot.Goals as goal

pub returns : goal.returns
unfolding freed
returns c =
    turned with_free (table_of c.args.t.now) _ _ _ _ _ call_none_lem c.put_slot.ensures c.mark_free.ensures
