-- `names_and_zeros` meets its contract: what is free is free slots and free records.
use mathlib.Core.Bool.{◌&&◌, and_assoc}
use Rattle.lists.specs.Below.{every_below}
use Rattle.table.specs.Total.{slots}
use Rattle.table.specs.Rules.{slot_free_clear, record_free_clear, holds, names_and_ids, refreshes_past}
use Rattle.table.specs.Words.{table_of}
use Rattle.rule_zeros.proofs.names_and_zeros.Goals as goal

pub returns : goal.returns
returns c =
    let t = table_of c.args.t.now in
    rw (c.slots_tidy.ensures, c.records_free_clear.ensures)
    (and_assoc (holds names_and_ids t && holds refreshes_past t) (every_below (slot_free_clear t) slots) (every_below (record_free_clear t) 8))
