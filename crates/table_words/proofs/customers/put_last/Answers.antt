-- `customers::put_last` meets its contract.
use native.Mathlib.Omega.{arith}
use Rattle.table_words.proofs.Stored.{last_stored}
use Rattle.table_words.proofs.customers.put_last.Goals as goal

pub returns : goal.returns
returns c =
    let a = c.args in
    last_stored a.t.now a.k a.id (omega arith) c.requires
