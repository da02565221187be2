-- `add_under` meets its contract.
use mathlib.Core.Path.{◌∙◌}
use Rattle.spec_changes.specs.Connections.{added_under}
use Rattle.update_connection.proofs.Alike.{free_alike}
use Rattle.update_connection.proofs.add_under.Goals as goal

pub returns : goal.returns
unfolding added_under
returns c =
    c.put_call_place.ensures ∙ rw (c.free_place-j.ensures.0, free_alike _ _ c.call_four.ensures, c.place_for.ensures)
