-- `keep_connection` meets its contract.
use mathlib.Core.Path.{sym, ◌∙◌}
use Rattle.checkpoint_connections.proofs.keep_connection.Goals as goal

pub keep_standalone-requires : goal.keep_standalone-requires
keep_standalone-requires c =
    (c.requires.0, c.requires.1, c.connection-x.ensures, sym c.is_no_call.ensures ∙ c.if-is_no_call.true)

pub keep_under-requires : goal.keep_under-requires
keep_under-requires c =
    (c.requires.0, c.requires.1, c.connection-x.ensures, sym c.is_no_call.ensures ∙ c.if-is_no_call.false)

pub returns-then-is_no_call : goal.returns-then-is_no_call
returns-then-is_no_call c = rw c.connection-x.ensures at c.keep_standalone.ensures

pub returns-else-is_no_call : goal.returns-else-is_no_call
returns-else-is_no_call c = rw c.connection-x.ensures at c.keep_under.ensures
