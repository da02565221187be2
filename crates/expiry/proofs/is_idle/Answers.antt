-- `is_idle` meets its contract.
use mathlib.Core.Path.{ap, ◌∙◌}
use mathlib.Core.Bool.{true}
use lib.Dec.{eqb}
use Rattle.lists.specs.Count.{count_if}
use Rattle.table.specs.Lists.{call_at, Held}
use Rattle.table.specs.Words.{table_of}
use Rattle.table_words.proofs.Alike.{alike_held}
use Rattle.expiry.proofs.Idle.{idle_count}
use Rattle.expiry.proofs.is_idle.Goals as goal

pub returns : goal.returns
returns c =
    let a = c.args in
    ap (λ n. eqb n 0) (c.taken_in.ensures.0 ∙ ap (count_if (λ (x : Held). true)) (alike_held _ _ c.call_four.ensures)) ∙ idle_count (call_at (table_of a.t.now) a.i)
