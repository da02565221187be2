use native.Mathlib.Omega.{arith}
use mathlib.Core.Path.{◌≡◌, refl, sym, ◌∙◌}
use borrow.Author.Rules.{Fits-under}
use Rattle.lists.proofs.Below.{has_none, has_turn, sum_none, sum_turn}
use Rattle.table.specs.Share.{S}
use Rattle.table.specs.Words.{table_of}
use Rattle.rule_limits.proofs.Counted.{cond_most, each_calls}
use Rattle.rule_limits.proofs.share_sums.Goals as goal

pub loop-k-init : goal.loop-k-init
loop-k-init c = (omega arith, omega arith, sym (has_none _ _), sym (sum_none _ _), sym (sum_none _ _))

pub overflow_cast-calls : goal.overflow_cast-calls
overflow_cast-calls c =
    let n = each_calls (table_of c.args.t.now) _ c.loop-k.k c.count_calls.ensures (omega arith) in
    Fits-under _ _ 201 (omega (arith, n.1)) _

pub overflow_add-sum : goal.overflow_add-sum
overflow_add-sum c =
    let n = each_calls (table_of c.args.t.now) _ c.loop-k.k c.count_calls.ensures (omega arith) in
    record { fits = omega (arith, cond_most, c.select-sum.ensures, c.max.ensures, n.1, c.customer_head-m.ensures.1) }

pub overflow_add-known : goal.overflow_add-known
overflow_add-known c =
    let n = each_calls (table_of c.args.t.now) _ c.loop-k.k c.count_calls.ensures (omega arith) in
    record { fits = omega (arith, cond_most, c.select-known.ensures, n.1) }

pub loop-k-preserved : goal.loop-k-preserved
loop-k-preserved c =
    let t = table_of c.args.t.now in
    let e = c.listed-listed.ensures in
    let head = c.customer_head-m.ensures in
    let n = each_calls t _ c.loop-k.k c.count_calls.ensures (omega arith) in
    let larger = c.max.ensures in
    let sum = c.select-sum.ensures in
    let known = c.select-known.ensures in (
      omega (arith, cond_most, sum, larger, n.1, head.1),
      omega (arith, cond_most, known, n.1),
      has_turn _ _ _ _ _ _ _ refl c.loop-k.invariant.2 (rw (n.0, ← e, head.0)),
      sum_turn _ _ _ _ _ _ _ refl c.loop-k.invariant.3 (sum ∙ rw (larger, n.0, ← e, head.0)),
      sum_turn _ _ _ _ _ _ _ refl c.loop-k.invariant.4 (known ∙ rw (n.0, ← e)),
    )

pub returns : goal.returns
unfolding S
returns c =
    let e : c.loop-k.k ≡ 8 = omega arith in
    let over = rw e at c.loop-k.invariant.2 in
    let sum = rw e at c.loop-k.invariant.3 in
    let known = rw e at c.loop-k.invariant.4 in
    (over, sum, known)
