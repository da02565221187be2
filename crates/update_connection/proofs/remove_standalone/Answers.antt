-- `remove_standalone` meets its contract.
use mathlib.Core.Path.{◌∙◌}
use Rattle.spec_changes.specs.Connections.{removed_standalone}
use Rattle.update_connection.proofs.Alike.{with_alike}
use Rattle.update_connection.proofs.remove_standalone.Goals as goal

pub returns : goal.returns
unfolding removed_standalone
returns c =
    c.put_customer_place.ensures ∙ rw (c.place_with-j.ensures.0, with_alike _ _ c.customer_four.ensures, c.no_place.ensures)
