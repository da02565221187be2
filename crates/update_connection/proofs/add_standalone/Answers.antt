-- `add_standalone` meets its contract.
use mathlib.Core.Path.{◌∙◌}
use Rattle.spec_changes.specs.Connections.{added_standalone}
use Rattle.update_connection.proofs.Alike.{free_alike}
use Rattle.update_connection.proofs.add_standalone.Goals as goal

pub returns : goal.returns
unfolding added_standalone
returns c =
    c.put_customer_place.ensures ∙ rw (c.free_place-j.ensures.0, free_alike _ _ c.customer_four.ensures, c.place_for.ensures)
