use native.Mathlib.Omega.{arith}
use mathlib.Core.Path.{◌≡◌, refl, ap, ◌∙◌}
use Rattle.lists.proofs.Filled.{fill_none, fill_turn, fill_all}
use Rattle.table_words.specs.declared.customers.CustomerHead.{CustomerHead}
use Rattle.rule_limits.specs.Tally.{addresses_of}
use Rattle.rule_limits.proofs.addresses.Goals as goal

pub loop-k-init : goal.loop-k-init
loop-k-init c = fill_none _ _ 8 0 refl

pub loop-k-preserved : goal.loop-k-preserved
loop-k-preserved c =
    let l = c.loop-k in
    fill_turn _ _ 8 _ _ _ (omega arith) l.invariant (ap (λ (m : CustomerHead). m.address) c.customer_head.ensures.0)

pub returns : goal.returns
unfolding addresses_of
returns c =
    let e : c.loop-k.k ≡ 8 = omega arith in
    rw e at c.loop-k.invariant ∙ fill_all _ _ 8
