use Rattle.std.proofs.Common.{◌≡◌, arith}
use Rattle.find_call.proofs.Looked.{look_none, look_turn, look_all}
use Rattle.find_call.proofs.request.look_up.Goals as goal

pub loop-i-init : goal.loop-i-init
loop-i-init c = look_none _ _

pub looked-look-requires : goal.looked-look-requires
looked-look-requires c =
    let p = c.requires in
    (omega (arith, c.used_below-i-end.ensures.0), c.is_used.ensures, p.0, p.1, p.2, c.name_words-name.ensures)

pub loop-i-preserved : goal.loop-i-preserved
loop-i-preserved c = rw c.looked-look.ensures (look_turn _ _ _ _ _ c.is_used.ensures c.loop-i.invariant)

pub returns : goal.returns
returns c =
    let n = c.used_below-i-end in
    let e : c.loop-i.i ≡ n.result = omega arith in
    look_all _ _ _ _ n.ensures.0 n.ensures.1 (rw e at c.loop-i.invariant)
