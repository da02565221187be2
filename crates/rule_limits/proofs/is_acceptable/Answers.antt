use Prim.Native.Nat.{ℕ}
use native.Mathlib.Omega.{arith}
use mathlib.Core.Path.{◌≡◌, refl, sym, ap, ◌∙◌}
use lib.Dec.{ltb}
use Rattle.lists.proofs.Below.{has_none, has_turn, sum_none, sum_turn}
use Rattle.lists.proofs.Pairs.{pairs_none, outer_turn, no_two_places}
use Rattle.table.specs.Lists.{customer_at, terms_of}
use Rattle.table.specs.Rules.{bad_share, same_address, acceptable}
use Rattle.table.specs.Total.{total_for}
use Rattle.table.specs.Words.{table_of}
use Rattle.rule_limits.proofs.Counted.{cond_most}
use Rattle.rule_limits.proofs.is_acceptable.Goals as goal

pub loop-k-init : goal.loop-k-init
loop-k-init c = (omega arith, sym (has_none _ _), sym (pairs_none _), sym (sum_none _ _))

pub overflow_add-sum : goal.overflow_add-sum
overflow_add-sum c = record { fits = omega (arith, cond_most, c.select-sum.ensures, c.customer_head-c.ensures.1) }

pub loop-k-preserved : goal.loop-k-preserved
unfolding bad_share
loop-k-preserved c =
    let n = c.listed-listed.ensures in
    let head = c.customer_head-c.ensures in
    let i = c.loop-k.invariant in (
      omega (arith, cond_most, c.select-sum.ensures, head.1),
      has_turn _ _ _ _ _ _ _ refl i.1 (rw (c.bad_share.ensures, ← n, head.0)),
      outer_turn _ _ _ (rw (i.2, c.is_apart-apart.ensures)),
      sum_turn _ _ _ _ _ _ _ refl i.3 (c.select-sum.ensures ∙ rw (← n, head.0)),
    )

pub returns : goal.returns
unfolding acceptable
returns c =
    let t = table_of c.args.t.now in
    let total = c.total_for-total.ensures.0 ∙ ap total_for c.form.ensures in
    let e : c.loop-k.k ≡ 8 = omega arith in
    let bad = rw e at c.loop-k.invariant.1 in
    let apart = rw e at c.loop-k.invariant.2 in
    let sum = rw e at c.loop-k.invariant.3 in
    rw (bad, apart, sum, total, no_two_places same_address (λ (k : ℕ). ltb k t.listed) (λ (k : ℕ). terms_of (customer_at t k)) 8)
