use native.Mathlib.Omega.{arith}
use Prim.Native.Nat.{ℕ, ◌+◌, ◌*◌}
use mathlib.Core.Path.{sym, ap, ◌∙◌}
use Rattle.table.specs.Word.{first_clear}
use Rattle.table.specs.Words.{table_of}
use Rattle.table.proofs.Slots.{full_next, lowest_words, lowest_none}
use Rattle.occupancy.proofs.lowest_free.Goals as goal

pub loop-k-init : goal.loop-k-init
loop-k-init c = λ j l. let z : ⊥ = omega arith in absurd z

pub returns-then-n-lt64 : goal.returns-then-n-lt64
returns-then-n-lt64 c =
    let w = (table_of c.args.t.now).occupied in
    let e = c.first_clear-n.ensures.0 ∙ ap first_clear c.used_word.ensures in
    sym (lowest_words w c.loop-k.k c.loop-k.invariant (omega arith) (omega (arith, e)) ∙ ap (λ (n : ℕ). 64 * c.loop-k.k + n) (sym e))

pub loop-k-preserved : goal.loop-k-preserved
loop-k-preserved c =
    let w = (table_of c.args.t.now).occupied in
    let e = c.first_clear-n.ensures.0 ∙ ap first_clear c.used_word.ensures in
    full_next w c.loop-k.k c.loop-k.invariant (omega (arith, e, c.first_clear-n.ensures.1))

pub returns : goal.returns
returns c =
    sym (lowest_none (table_of c.args.t.now).occupied (λ j m. c.loop-k.invariant j (omega arith)))
