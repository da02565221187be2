-- `under::look_under` meets its contract: after `i` turns it knows of the first `i` slots.
use Prim.Native.Nat.{◌≤◌, ◌*◌}
use Rattle.table.specs.Words.{table_of}
use Rattle.spec_calls.specs.PathRules.{held_by}
use Rattle.find_connection.proofs.Looked.{LookedUnder}
use Rattle.find_connection.proofs.under.look_under.Given as goal

abbrev pub invariant-loop-i : goal.invariant-loop-i
invariant-loop-i l = (l.look.four ≤ 4 * l.i) × LookedUnder (table_of l.t) (held_by l.x) l.i l.look
