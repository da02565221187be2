-- `customers::put_terms` meets its contract.
use native.Mathlib.Omega.{arith}
use Rattle.table_words.proofs.Stored.{terms_stored}
use Rattle.table_words.proofs.customers.put_terms.Goals as goal

pub returns : goal.returns
returns c =
    let a = c.args in
    terms_stored a.t.now a.k a.address a.guarantee a.limit (omega arith) c.requires
