-- `placing::call_fits_lem` meets its contract: a taken slot does not fit, any other as the rules say.
use native.Mathlib.Omega.{arith}
use Rattle.table.specs.Words.{table_of}
use Rattle.table.proofs.Within.{total_most}
use Rattle.checkpoint_records.specs.Record.{read_of}
use Rattle.checkpoint_salvage.proofs.Placed.{slot_used, slot_free}
use Rattle.checkpoint_salvage.proofs.placing.call_fits.Goals as goal

pub is_used-used-requires : goal.is_used-used-requires
is_used-used-requires c =
    omega (arith, c.requires.2, total_most (table_of c.args.t.now).form)

pub returns-then-used : goal.returns-then-used
returns-then-used c =
    slot_used (table_of c.args.t.now) (read_of c.args.r) _ _ c.requires.1 c.is_used-used.ensures c.if-used.true

pub stands-requires : goal.stands-requires
stands-requires c =
    let here = c.requires.1 in
    (c.requires.0, rw here at c.requires.2, rw (c.is_used-used.ensures, here) at c.if-used.false)

pub returns : goal.returns
returns c =
    slot_free (table_of c.args.t.now) (read_of c.args.r) _ _ c.requires.1 c.is_used-used.ensures _ c.if-used.false c.stands.ensures
