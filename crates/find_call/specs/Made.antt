-- A call that the node made for a request of this pair, with this epoch and identifier (02, A6): `is_made_by` of the call
-- rules, of the request's numbers alone.
use Rattle.std.specs.Prelude.{ℕ, Bool, ◌&&◌, eqb}
use Rattle.objects.specs.declared.fields.MessageId.{MessageId}
use Rattle.table.specs.Lists.{Entry}

abbrev pub is_made_for : ℕ → ℕ → MessageId → Entry → Bool
is_made_for endpoint sender request e =
    e.made
    && (eqb endpoint e.ids.endpoint && eqb sender e.ids.sender)
    && eqb request.epoch e.request.epoch
    && eqb request.identifier e.request.identifier
