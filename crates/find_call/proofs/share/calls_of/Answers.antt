use Rattle.std.proofs.Common.{◌≡◌, sym, refl, ap, ◌∙◌, arith, rules, ◌≤◌}
use Rattle.lists.proofs.Below.{count_none, count_turn}
use Rattle.table.specs.Share.{calls_of}
use Rattle.table.specs.Words.{table_of}
use Rattle.table.proofs.Slots.{open_rest}
use Rattle.spec_changes.proofs.Firsts.{as_bit}
use Rattle.find_call.proofs.share.calls_of.Goals as goal

pub loop-i-init : goal.loop-i-init
loop-i-init c = (omega arith, sym (count_none _ _))

pub loop-i-preserved : goal.loop-i-preserved
loop-i-preserved c =
    let one : c.from-calls.result ≤ 1 = search rules in
    (omega arith, count_turn _ _ _ _ _ _ _ refl c.loop-i.invariant.1 (c.from-calls.ensures ∙ as_bit _ ∙ rw (c.is_used.ensures, c.call_head-c.ensures)))

pub returns : goal.returns
returns c =
    let n = c.used_below-i-end in
    let e : c.loop-i.i ≡ n.result = omega arith in
    rw e at c.loop-i.invariant.1 ∙ ap (λ l. calls_of l c.args.address) (sym (open_rest (table_of c.args.t.now) _ n.ensures.0 n.ensures.1))
