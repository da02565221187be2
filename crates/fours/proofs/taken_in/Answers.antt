use native.Mathlib.Omega.{arith}
use mathlib.Core.Path.{sym}
use mathlib.Core.Bool.{true}
use Rattle.lists.proofs.Below.{count_none}
use Rattle.table.specs.Lists.{held_place}
use Rattle.table_words.specs.Fours.{four_at_word}
use Rattle.fours.proofs.Places.{taken_turn}
use Rattle.fours.proofs.taken_in.Goals as goal

pub loop-j-init : goal.loop-j-init
loop-j-init c = (sym (count_none (held_place (four_at_word c.args.t.now c.args.f)) (λ x. true)), omega arith)

pub loop-j-preserved : goal.loop-j-preserved
loop-j-preserved c =
    let f = four_at_word c.args.t.now c.args.f in
    let one = taken_turn f c.loop-j.j c.loop-j.n _ c.from-n.result c.loop-j.invariant.0 c.is_taken.ensures c.from-n.ensures in
    (one.0, omega (arith, one.1))
