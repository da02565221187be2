use native.Mathlib.Omega.{arith}
use mathlib.Core.Path.{◌≡◌, sym, ap, ◌∙◌}
use Rattle.table.specs.Lists.{customer_at}
use Rattle.table.specs.Words.{table_of}
use Rattle.table.proofs.Slots.{open_rest}
use Rattle.rule_limits.specs.Tally.{calls_each}
use Rattle.rule_limits.proofs.Counted.{calls_most, each_length, each_at, each_none, each_used, each_free}
use Rattle.rule_limits.proofs.count_calls.Goals as goal
use Rattle.rule_limits.proofs.count_calls.Goals.{then-is_used, else-is_used}

pub loop-i-init : goal.loop-i-init
loop-i-init c = c.requires ∙ each_none _

pub tally-requires : goal.tally-requires
tally-requires c =
    let t = table_of c.args.t.now in
    let e = c.loop-i.invariant in
    (rw e (each_length t _), λ k h. rw (e, each_at t _ k h) (omega (arith, calls_most t (customer_at t k).address c.loop-i.i, c.used_below-n.ensures.0)))

pub loop-i-preserved : goal.loop-i-preserved
loop-i-preserved c =
    let t = table_of c.args.t.now in
    let used = c.is_used.ensures in
    elim c.if-is_used.branch [
      | then-is_used y ↦ y.counts-is ∙ y.tally.ensures ∙ rw (c.loop-i.invariant, c.addresses-a.ensures, y.call_head.ensures) (each_used t c.loop-i.i (sym used ∙ y.if-is_used.true))
      | else-is_used y ↦ y.counts-is ∙ c.loop-i.invariant ∙ each_free t c.loop-i.i (sym used ∙ y.if-is_used.false)
    ]

pub returns : goal.returns
returns c =
    let t = table_of c.args.t.now in
    let e : c.loop-i.i ≡ c.used_below-n.result = omega arith in
    rw e at c.loop-i.invariant ∙ ap (calls_each t) (sym (open_rest t _ c.used_below-n.ensures.0 c.used_below-n.ensures.1))
