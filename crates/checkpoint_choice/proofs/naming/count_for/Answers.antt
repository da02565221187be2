-- `naming::count_for` meets its contract: some record stands for record i, if not itself.
use Prim.Native.Nat.{◌-◌, ◌<◌}
use native.Mathlib.Omega.{arith}
use mathlib.Core.Path.{◌≡◌, refl, ap, ◌∙◌}
use lib.ListN.{get_or, set}
use Rattle.spec_checkpoint.specs.Layout.{calls_in}
use Rattle.checkpoint_choice.specs.Chained.{named_as, stand_in_for}
use Rattle.checkpoint_choice.proofs.StandIn.{stand_in_own}
use Rattle.checkpoint_choice.proofs.naming.count_for.Goals as goal

pub find-requires : goal.find-requires
find-requires c =
    record { calls = calls_in c.args.c.bytes.now; noted = c.requires.0 }

pub returns-in-Some : goal.returns-in-Some
returns-in-Some c =
    let s = c.args.c.bytes.now in
    let found = rw (c.name_of.ensures ∙ ap named_as c.call.ensures) at (c.in-Some.ensures.found (calls_in s) c.requires.0) in
    let is : c.in-Some.j ≡ stand_in_for s (calls_in s) c.args.i - 1 = omega (arith, found) in
    ap (λ e. set c.args.counts.now c.args.i (get_or c.args.counts.now e 0)) is

pub returns-in_default : goal.returns-in_default
returns-in_default c =
    let s = c.args.c.bytes.now in
    let none = rw (c.name_of.ensures ∙ ap named_as c.call.ensures) at (c.in_default.ensures.found (calls_in s) c.requires.0) in
    let inside : c.args.i < calls_in s = omega (arith, c.args.c.calls_is) in
    absurd (stand_in_own s (calls_in s) c.args.i (stand_in_for s (calls_in s) c.args.i) refl inside none)
