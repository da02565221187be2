use native.Mathlib.Omega.{arith}
use mathlib.Core.Path.{sym, ap, ◌∙◌}
use lib.Dec.{ltb}
use Rattle.table.specs.Lists.{customer_at, customer_four, standalone_at}
use Rattle.table.specs.Words.{table_of}
use Rattle.checkpoint_write.proofs.Grown.{none}
use Rattle.checkpoint_write.proofs.Parts.{four_bytes, alike_fits, customer_fits}
use Rattle.checkpoint_write.proofs.Rows.{row_room, row_within, row_turn, row_complete}
use Rattle.checkpoint_write.proofs.connections.put_with_no_call.Goals as goal

pub loop-k-init : goal.loop-k-init
loop-k-init c = none _ _

pub put_four-at-requires : goal.put_four-at-requires
put_four-at-requires c =
    let t = table_of c.args.t.now in
    let k = c.loop-k.k in
    let listed = ap (λ n. ltb k n) c.listed-n.ensures in
    let a = c.customer_four.ensures in (
      λ h. alike_fits _ (customer_four (customer_at t k)) a (customer_fits t c.requires.0 k (omega arith) (sym listed ∙ h)),
      rw (four_bytes _ _ _ (customer_four (customer_at t k)) listed a) (row_room (standalone_at t) _ _ 8 (omega arith) c.requires.1 c.loop-k.invariant),
    )

pub overflow_add-at : goal.overflow_add-at
overflow_add-at c =
    let t = table_of c.args.t.now in
    let k = c.loop-k.k in
    let listed = ap (λ n. ltb k n) c.listed-n.ensures in
    let w = rw (four_bytes _ _ _ (customer_four (customer_at t k)) listed c.customer_four.ensures) at c.put_four-at.ensures in
    omega (arith, row_within (standalone_at t) _ _ 8 (omega arith) c.requires.1 c.loop-k.invariant w)

pub loop-k-preserved : goal.loop-k-preserved
loop-k-preserved c =
    let t = table_of c.args.t.now in
    let k = c.loop-k.k in
    let listed = ap (λ n. ltb k n) c.listed-n.ensures in
    let w = rw (four_bytes _ _ _ (customer_four (customer_at t k)) listed c.customer_four.ensures) at c.put_four-at.ensures in
    row_turn (standalone_at t) _ _ 8 (omega arith) c.requires.1 c.loop-k.invariant w

pub returns : goal.returns
returns c = row_complete (standalone_at (table_of c.args.t.now)) _ 8 (omega arith) c.loop-k.invariant
