-- `note_record` meets its contract.
use native.Mathlib.Omega.{arith}
use Rattle.table.specs.Words.{table_of}
use Rattle.table_words.specs.Fours.{four_at_word}
use Rattle.rule_keys.proofs.Passes.{customer_listed, customer_unlisted}
use Rattle.rule_keys.proofs.note_record.Goals as goal

pub returns-then-k-listed : goal.returns-then-k-listed
returns-then-k-listed c =
    let z = c.args in
    let e = c.note_four.ensures in
    (customer_listed (table_of z.t.now) z.listed z.k (four_at_word z.t.now c.customer_four.result) _ _ c.if-k-listed.true c.customer_four.ensures e.0, e.1)

pub returns-else-k-listed : goal.returns-else-k-listed
returns-else-k-listed c =
    (customer_unlisted (table_of c.args.t.now) c.args.listed c.args.k _ c.if-k-listed.false, omega arith)
