-- `path_refused` meets its contract: the PathErr is sent.
use mathlib.Core.Path.{refl}
use Rattle.answer_connection.proofs.path_refused.Goals as goal

pub returns : goal.returns
returns c =
    let sent = rw c.address.ensures at c.send_path_err-length.ensures in
    (refl, sent.0, sent.1)
