-- `fours::put_call_place` meets its contract: the four words are the place's.
use native.Mathlib.Omega.{arith}
use Rattle.table_words.proofs.Stored.{call_place_stored}
use Rattle.table_words.proofs.fours.put_call_place.Goals as goal

pub returns : goal.returns
returns c =
    let a = c.args in
    call_place_stored a.t.now a.i a.j a.p.taken a.p.tunnel.0 a.p.extended a.p.lsp.0 (omega arith) c.requires.0 c.requires.1
