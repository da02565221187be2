use Prim.Native.Nat.{◌+◌}
use native.Mathlib.Omega.{arith}
use mathlib.Core.Path.{◌≡◌, refl, ap₂, ◌∙◌}
use mathlib.Core.Bool.{Bool, true, false}
use lib.Dec.{eqb}
use lib.ListN.{get_or}
use mir.Val.{bool_byte}
use borrow.Author.Rules.{Fits-under}
use Rattle.lists.specs.Count.{bit}
use Rattle.lists.proofs.Count.{one_bit}
use Rattle.lists.proofs.Filled.{fill_none, fill_turn, fill_left, fill_all}
use Rattle.rule_limits.specs.Tally.{tallied}
use Rattle.rule_limits.proofs.tally.Goals as goal

-- a test read as a number
as_bit : (b : Bool) → bool_byte b ≡ bit b
as_bit true = refl
as_bit false = refl

pub loop-k-init : goal.loop-k-init
loop-k-init c = fill_none _ _ 8 0 c.requires.0

pub overflow_add-counts : goal.overflow_add-counts
overflow_add-counts c =
    let l = c.loop-k in
    let here = eqb (get_or c.args.addresses.now l.k 0) c.args.sender in
    let e = fill_left _ _ 8 l.k l.k _ 0 (omega arith) (omega arith) l.invariant in
    Fits-under _ _ 201 (omega (arith, e, c.requires.1 l.k (omega arith), c.from.ensures, as_bit here, one_bit here)) _

pub loop-k-preserved : goal.loop-k-preserved
loop-k-preserved c =
    let l = c.loop-k in
    let a = c.args in
    let e = fill_left _ _ 8 l.k l.k _ 0 (omega arith) (omega arith) l.invariant in
    fill_turn _ _ 8 l.k _ _ (omega arith) l.invariant (ap₂ ◌+◌ e (c.from.ensures ∙ as_bit (eqb (get_or a.addresses.now l.k 0) a.sender)))

pub returns : goal.returns
unfolding tallied
returns c =
    let e : c.loop-k.k ≡ 8 = omega arith in
    rw e at c.loop-k.invariant ∙ fill_all _ _ 8
