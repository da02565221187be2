-- `checkpoint_size` meets its contract: a checkpoint's length is that of its parts.
use native.Mathlib.Omega.{arith}
use Rattle.table.specs.Words.{table_of}
use Rattle.table.proofs.Within.{rules_within}
use Rattle.checkpoint_write.proofs.Parts.{calls_length}
use Rattle.checkpoint_write.proofs.Checkpoint.{checkpoint_length}
use Rattle.checkpoint_write.proofs.checkpoint_size.Goals as goal

pub open_calls-requires : goal.open_calls-requires
open_calls-requires c = rules_within (table_of c.args.t.now) c.requires

pub returns : goal.returns
returns c =
    let w = c.args.t.now in
    omega (arith, checkpoint_length (table_of w), calls_length w)
