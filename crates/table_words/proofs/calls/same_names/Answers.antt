use native.Mathlib.Omega.{arith}
use mathlib.Core.Path.{◌≡◌, ◌∙◌}
use Rattle.table.proofs.Cells.{call_at_lem}
use Rattle.table.proofs.Names.{names_by_words}
use Rattle.table_words.proofs.calls.same_names.Goals as goal

pub returns : goal.returns
returns c =
    let w = c.args.t.now in
    let e : c.loop-k.k ≡ 8 = omega arith in
    rw (call_at_lem w c.args.j c.requires.0, call_at_lem w c.args.i c.requires.1) (rw e at c.loop-k.invariant ∙ names_by_words w w _ _)
