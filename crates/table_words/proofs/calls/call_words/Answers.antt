-- `calls::call_words` meets its contract.
use Rattle.table_words.proofs.Made.{call_made}
use Rattle.table_words.proofs.calls.call_words.Goals as goal

pub returns : goal.returns
returns c =
    let a = c.args in
    call_made a.c a.name.now
