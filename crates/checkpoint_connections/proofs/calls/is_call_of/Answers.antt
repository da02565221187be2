-- `calls::is_call_of` meets its contract.
use mathlib.Core.Path.{sym}
use Rattle.table.specs.Words.{table_of}
use Rattle.spec_calls.specs.PathRules.{held_by}
use Rattle.checkpoint_connections.proofs.Fits.{call_in, call_out}
use borrow.Author.Rules.{rules}
use Rattle.checkpoint_connections.proofs.calls.is_call_of.Goals as goal

pub returns-then-slot-ge-SLOTS : goal.returns-then-slot-ge-SLOTS
returns-then-slot-ge-SLOTS c =
    let a = c.args in
    sym (call_out (table_of a.t.now) (held_by a.x) a.slot (search rules))

pub returns : goal.returns
returns c =
    let a = c.args in
    rw (c.is_used-used.ensures, c.is_named.ensures) (sym (call_in (table_of a.t.now) (held_by a.x) a.slot (search rules)))
