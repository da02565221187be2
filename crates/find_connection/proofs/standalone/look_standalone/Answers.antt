use native.Mathlib.Omega.{arith}
use mathlib.Core.Path.{◌≡◌, refl}
use lib.Dec.{ltb}
use Rattle.table.specs.Lists.{customer_at, customer_four, held_in}
use Rattle.table.specs.Words.{table_of}
use Rattle.table_words.proofs.Alike.{alike_held}
use Rattle.find_connection.specs.Looks.{standalone_look_of}
use Rattle.find_connection.proofs.Rows.{looked_none, looked_turn}
use Rattle.find_connection.proofs.standalone.look_standalone.Goals as goal

pub loop-k-init : goal.loop-k-init
loop-k-init c = (omega arith, looked_none _ _)

pub loop-k-preserved : goal.loop-k-preserved
loop-k-preserved c =
    let t = table_of c.args.t.now in
    let k = c.loop-k.k in
    let four = customer_four (customer_at t k) in
    let e = rw (c.listed-n.ensures, alike_held _ four c.customer_four.ensures) at c.match_four-m.ensures in
    (omega (arith, e.3), looked_turn _ _ (ltb k t.listed) (held_in four) refl c.loop-k.invariant.1 e.0 e.1 e.2)

pub returns : goal.returns
unfolding standalone_look_of
returns c =
    let e : c.loop-k.k ≡ 8 = omega arith in
    let k = rw e at c.loop-k.invariant.1 in
    rw (k.other, k.held, k.four)
