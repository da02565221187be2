-- `four::counts_at` meets its contract.
use mathlib.Core.Path.{ap}
use Rattle.find_connection.proofs.four.counts_at.Goals as goal

pub returns : goal.returns
returns c =
    rw (c.is_no_call.ensures, c.is_call.ensures, c.endpoint_at.ensures, ap (λ p. p.taken) c.place_words-p.ensures)
