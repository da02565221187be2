-- What a record of a checkpoint says.
use Rattle.spec_checkpoint.specs.Layout.{Slotted, call_record}
use Rattle.checkpoint_records.specs.declared.call.CallRecord.{CallRecord}

abbrev pub read_of : CallRecord → Slotted
read_of r = call_record r.bytes.now r.number
