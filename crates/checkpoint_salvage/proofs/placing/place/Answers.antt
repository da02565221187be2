-- `placing::place` meets its contract: the callees' promises, one put into the other.
use Rattle.table.specs.Words.{table_of}
use Rattle.checkpoint_records.specs.Record.{read_of}
use Rattle.checkpoint_salvage.proofs.Placed.{placed_by}
use Rattle.checkpoint_salvage.proofs.placing.place.Goals as goal

pub returns : goal.returns
returns c =
    placed_by (table_of c.args.t.now) _ _ _ (read_of c.args.r) _ _ c.requires.0 c.words-call.ensures c.raise_time.ensures c.put_slot.ensures c.mark_used.ensures
