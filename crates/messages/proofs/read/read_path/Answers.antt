-- `read::read_path` meets its contract: at each return the tests passed say which case of `path_of` it is.
use mathlib.Core.Path.{sym, ◌∙◌}
use Rattle.messages.specs.Read.{path_of}
use Rattle.messages.proofs.Bounds.{path_bounds}
use Rattle.messages.proofs.read.read_path.Goals as goal

pub returns-then-not-path_complete : goal.returns-then-not-path_complete
unfolding path_of
returns-then-not-path_complete c = rw (sym c.path_complete.ensures ∙ c.if-not-path_complete.true)

pub connection_at-connection-requires : goal.connection_at-connection-requires
connection_at-connection-requires c = path_bounds _ _ (sym c.path_complete.ensures ∙ c.if-not-path_complete.false) c.requires

pub returns-then-adds : goal.returns-then-adds
unfolding path_of
returns-then-adds c = rw (sym c.path_complete.ensures ∙ c.if-not-path_complete.false, c.if-adds.true, c.connection_at-connection.ensures)

pub returns : goal.returns
unfolding path_of
returns c = rw (sym c.path_complete.ensures ∙ c.if-not-path_complete.false, c.if-adds.false, c.connection_at-connection.ensures)
