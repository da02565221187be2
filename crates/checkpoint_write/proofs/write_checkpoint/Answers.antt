-- `write_checkpoint` meets its contract: each test has its answer.
use native.Mathlib.Omega.{arith}
use mathlib.Core.Path.{sym, ◌∙◌}
use Rattle.table.specs.Words.{table_of}
use Rattle.checkpoint_write.proofs.Checkpoint.{written_broken, written_short, written_complete}
use Rattle.checkpoint_write.proofs.write_checkpoint.Goals as goal

pub returns-then-not-rules_hold : goal.returns-then-not-rules_hold
returns-then-not-rules_hold c =
    sym (written_broken (table_of c.args.t.now) c.args.out.now (sym c.rules_hold.ensures ∙ c.if-not-rules_hold.true))

pub checkpoint_size-requires : goal.checkpoint_size-requires
checkpoint_size-requires c = sym c.rules_hold.ensures ∙ c.if-not-rules_hold.false

pub returns-then-out-checkpoint_size : goal.returns-then-out-checkpoint_size
returns-then-out-checkpoint_size c =
    sym (written_short (table_of c.args.t.now) c.args.out.now (sym c.rules_hold.ensures ∙ c.if-not-rules_hold.false) (omega arith))

pub put_checkpoint-requires : goal.put_checkpoint-requires
put_checkpoint-requires c = (sym c.rules_hold.ensures ∙ c.if-not-rules_hold.false, omega arith)

pub returns : goal.returns
returns c =
    let w = c.put_checkpoint.ensures in
    rw (written_complete (table_of c.args.t.now) c.args.out.now (sym c.rules_hold.ensures ∙ c.if-not-rules_hold.false) (omega arith), w.count, w.is)
