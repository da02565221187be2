-- `remove_under` meets its contract.
use mathlib.Core.Path.{◌∙◌}
use Rattle.spec_changes.specs.Connections.{removed_under}
use Rattle.update_connection.proofs.Alike.{with_alike}
use Rattle.update_connection.proofs.remove_under.Goals as goal

pub returns : goal.returns
unfolding removed_under
returns c =
    c.put_call_place.ensures ∙ rw (c.place_with-j.ensures.0, with_alike _ _ c.call_four.ensures, c.no_place.ensures)
