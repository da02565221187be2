-- `fours::put_customer_place` meets its contract: the end point, then the place's four words.
use native.Mathlib.Omega.{arith}
use Rattle.table_words.proofs.Stored.{customer_place_stored}
use Rattle.table_words.proofs.fours.put_customer_place.Goals as goal

pub returns : goal.returns
returns c =
    let a = c.args in
    customer_place_stored a.t.now a.k a.j a.endpoint a.p.taken a.p.tunnel.0 a.p.extended a.p.lsp.0 (omega arith) c.requires.0 c.requires.1
