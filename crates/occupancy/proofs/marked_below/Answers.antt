use native.Mathlib.Omega.{arith}
use Prim.Native.Nat.{ℕ, ◌+◌, ◌-◌, ◌*◌}
use mathlib.Core.Path.{sym, ap, ◌∙◌}
use Rattle.lists.specs.Chain.{last_below}
use Rattle.lists.proofs.Chain.{last_within}
use Rattle.table.specs.Word.{is_set}
use Rattle.table.specs.Words.{table_of}
use Rattle.table.proofs.Slots.{clear_next, last_words, last_nothing}
use Rattle.occupancy.proofs.marked_below.Goals as goal

pub loop-k-init : goal.loop-k-init
loop-k-init c = λ j l m. let z : ⊥ = omega arith in absurd z

pub overflow_add-result : goal.overflow_add-result
overflow_add-result c = omega (arith, c.set_below-last.ensures, last_within (is_set c.used_word.result) 64)

pub returns-then-last-ne0 : goal.returns-then-last-ne0
returns-then-last-ne0 c =
    let w = (table_of c.args.t.now).occupied in
    let k = c.loop-k.k - 1 in
    let e = c.set_below-last.ensures ∙ ap (λ (x : ℕ). last_below (is_set x) 64) c.used_word.ensures in
    sym (last_words w k (omega arith) (λ j a m. c.loop-k.invariant j (omega arith) m) (omega (arith, e, c.if-last-ne0.true)) ∙ ap (λ (n : ℕ). 64 * k + n) (sym e))

pub loop-k-preserved : goal.loop-k-preserved
loop-k-preserved c =
    let w = (table_of c.args.t.now).occupied in
    let k = c.loop-k.k - 1 in
    let e = c.set_below-last.ensures ∙ ap (λ (x : ℕ). last_below (is_set x) 64) c.used_word.ensures in
    clear_next w k (omega arith) (λ j a m. c.loop-k.invariant j (omega arith) m) (omega (arith, e, c.if-last-ne0.false))

pub returns : goal.returns
returns c =
    sym (last_nothing (table_of c.args.t.now).occupied (λ j a m. c.loop-k.invariant j (omega arith) m))
