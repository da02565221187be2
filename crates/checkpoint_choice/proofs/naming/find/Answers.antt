use native.Mathlib.Omega.{arith}
use mathlib.Core.Path.{ap, sym, ◌∙◌}
use lib.ListN.{get_or}
use Rattle.checkpoint_choice.proofs.StandIn.{search_head, search_end, search_found, search_less, search_next}
use Rattle.checkpoint_choice.proofs.naming.find.Goals as goal

pub loop-e-init : goal.loop-e-init
loop-e-init c f n is k =
    let a = c.args in
    search_head f a.s.now a.heads.now a.links.now n a.x.short a.x.endpoint a.x.sender k _ is

pub returns-then-is_short-clause-found : goal.returns-then-is_short-clause-found
returns-then-is_short-clause-found c n k =
    let a = c.args in
    let r = c.loop-e.invariant a.f n (c.from-e.ensures ∙ ap (λ m. get_or a.heads.now m 0) c.short_chain.ensures.0) k in
    omega (arith, search_found a.f a.s.now a.heads.now a.links.now n a.x.short a.x.endpoint a.x.sender k c.loop-e.e c.loop-e-test.true r (sym c.is_short.ensures ∙ c.if-is_short.true))

pub loop-e-smaller : goal.loop-e-smaller
loop-e-smaller c =
    let a = c.args in
    let r = c.loop-e.invariant a.f c.requires.calls (c.from-e.ensures ∙ ap (λ m. get_or a.heads.now m 0) c.short_chain.ensures.0) c.requires.noted in
    omega (arith, c.from-e-in-loop-e.ensures, search_less a.f a.s.now a.heads.now a.links.now c.requires.calls a.x.short a.x.endpoint a.x.sender c.requires.noted c.loop-e.e c.loop-e-test.true r)

pub loop-e-preserved : goal.loop-e-preserved
loop-e-preserved c f n is k =
    let a = c.args in
    rw c.from-e-in-loop-e.ensures
    (search_next f a.s.now a.heads.now a.links.now n a.x.short a.x.endpoint a.x.sender k c.loop-e.e c.loop-e-test.true (c.loop-e.invariant f n is k)
    (sym c.is_short.ensures ∙ c.if-is_short.false))

pub returns-clause-found : goal.returns-clause-found
returns-clause-found c n k =
    let a = c.args in
    sym (search_end a.f a.s.now a.heads.now a.links.now n a.x.short a.x.endpoint a.x.sender k c.loop-e.e c.loop-e-test.false
    (c.loop-e.invariant a.f n (c.from-e.ensures ∙ ap (λ m. get_or a.heads.now m 0) c.short_chain.ensures.0) k))
