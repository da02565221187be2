use Prim.Native.Nat.{◌-◌}
use native.Mathlib.Omega.{arith}
use mathlib.Core.Path.{◌≡◌, refl, sym, ap}
use mathlib.Core.Bool.{not}
use Rattle.rule_zeros.specs.Masks.{past_masks}
use Rattle.rule_zeros.proofs.Past.{past_none, clear_turn, ends_turn, ends_last}
use Rattle.rule_zeros.proofs.names.ends_at.Goals as goal

pub loop-k-init : goal.loop-k-init
loop-k-init c = (sym (past_none _ _), ap not (sym (past_none _ _)))

pub loop-k-preserved : goal.loop-k-preserved
loop-k-preserved c =
    let l = c.loop-k in
    let w = c.args.t.now in
    let x = c.name_word-w.result in
    let e = c.name_word-w.ensures in
    let f = c.name_word-w.type_inv in
    let under = c.loop-k-test.true in (
      clear_turn w past_masks c.args.i l.k x c.args.size c.requires.0 under c.requires.2 refl e f _ l.invariant.0,
      ends_turn w past_masks c.args.i l.k x (c.args.size - 1) c.requires.0 under (omega arith) refl e f _ l.invariant.1,
    )

pub returns : goal.returns
returns c =
    let e : c.loop-k.k ≡ 8 = omega arith in
    let i = c.loop-k.invariant in
    rw (i.0, i.1, e) (ends_last _ c.args.size c.requires.1 c.requires.2)
