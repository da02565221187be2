-- `request::look_up` meets its contract: after `i` turns it knows of the first `i` slots.
use Rattle.table.specs.Words.{table_of}
use Rattle.spec_calls.specs.CallRules.{ids_in}
use Rattle.find_call.proofs.Looked.{Looked}
use Rattle.find_call.proofs.request.look_up.Given as goal

abbrev pub invariant-loop-i : goal.invariant-loop-i
invariant-loop-i l = Looked (table_of l.t) (ids_in l.msg l.q) l.i l.look
