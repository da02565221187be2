-- `under::is_named` meets its contract.
use Rattle.find_connection.proofs.under.is_named.Goals as goal

pub returns : goal.returns
returns c =
    rw (c.is_call.ensures, c.call_head-c.ensures)
