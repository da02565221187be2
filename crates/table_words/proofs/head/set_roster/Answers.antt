-- `head::set_roster` meets its contract.
use native.Mathlib.Omega.{arith}
use Rattle.table_words.proofs.Stored.{roster_stored}
use Rattle.table_words.proofs.head.set_roster.Goals as goal

pub returns : goal.returns
returns c =
    let a = c.args in
    roster_stored a.t.now a.address a.epoch a.listed a.form (omega arith)
