-- `placing::with_call` meets its contract: the callees' promises in each of the three cases.
use native.Mathlib.Omega.{arith}
use borrow.Author.Tests.{not-true, not-false}
use Rattle.table.proofs.Within.{total_most}
use Rattle.table.specs.Words.{table_of}
use Rattle.checkpoint_records.specs.Record.{read_of}
use Rattle.checkpoint_salvage.proofs.Placed.{call_placed, call_dropped_lem}
use mathlib.Core.Path.{ap}
use mathlib.Core.Bool.{not}
use Rattle.checkpoint_salvage.proofs.placing.with_call.Goals as goal

pub returns-then-not-best : goal.returns-then-not-best
returns-then-not-best c = rw (not-true c.args.best (ap not c.if-not-best.true))

pub call_fits-requires : goal.call_fits-requires
call_fits-requires c =
    (c.requires.0, c.slot-slot.ensures.0, rw c.slot-slot.ensures.0 (c.requires.1 (c.if-not-best.false)))

pub place-requires : goal.place-requires
place-requires c = (
  c.slot-slot.ensures.0,
  rw c.slot-slot.ensures.0 (omega (arith, c.requires.1 (c.if-not-best.false), total_most (table_of c.args.t.now).form)),
)

pub returns-then-call_fits : goal.returns-then-call_fits
returns-then-call_fits c =
    let a = c.args in
    call_placed (table_of a.t.now) (read_of a.r) a.best _ _ (not-false a.best (ap not c.if-not-best.false)) c.call_fits.ensures c.if-call_fits.true c.place.ensures

pub returns-else-call_fits : goal.returns-else-call_fits
returns-else-call_fits c =
    let a = c.args in
    call_dropped_lem (table_of a.t.now) (read_of a.r) a.best _ c.call_fits.ensures c.if-call_fits.false
