-- `calls::put_refreshed` meets its contract.
use native.Mathlib.Omega.{arith}
use Rattle.table_words.proofs.Stored.{refresh_stored}
use Rattle.table_words.proofs.calls.put_refreshed.Goals as goal

pub returns : goal.returns
returns c =
    refresh_stored c.args.t.now c.args.i c.args.time (omega arith) c.requires
