-- `slots::put_slot` meets its contract, by whether the slot is used.
use Rattle.table.specs.Lists.{call_at}
use Rattle.table.specs.Words.{table_of}
use Rattle.spec_checkpoint.proofs.Codec.{call_size}
use Rattle.checkpoint_records.proofs.Behind.{name_long}
use Rattle.checkpoint_write.proofs.Parts.{list_if_is, put_taken, put_nothing}
use Rattle.checkpoint_write.proofs.slots.put_slot.Goals as goal

pub put_call-requires : goal.put_call-requires
put_call-requires c =
    let w = c.args.t.now in
    (c.requires.0, c.requires.1 c.if-used.true, rw (list_if_is _ _ c.if-used.true, call_size c.args.i (call_at (table_of w) c.args.i) (name_long w c.args.i c.requires.0)) at c.requires.2)

pub returns-then-used : goal.returns-then-used
returns-then-used c = put_taken _ c.if-used.true c.put_call.ensures

pub returns : goal.returns
returns c = put_nothing _ _ _ c.if-used.false
