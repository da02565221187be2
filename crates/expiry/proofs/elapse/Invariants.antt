-- `elapse` meets its contract: after `i` turns the calls of the first `i` slots that have expired are closed and listed.
use Rattle.table.specs.Words.{table_of}
use Rattle.spec_changes.specs.Expiry.{closings_below}
use Rattle.expiry.proofs.Turns.{Turned}
use Rattle.expiry.proofs.elapse.Given as goal

abbrev pub invariant-loop-i : goal.invariant-loop-i
invariant-loop-i l = Turned (table_of l.initial.t) (closings_below (table_of l.initial.t) l.period l.i) l.i l.initial.closings l.k (table_of l.t) l.closings
