use native.Mathlib.Omega.{arith}
use mathlib.Core.Path.{◌≡◌, refl, ap, ◌∙◌}
use lib.ListN.{length}
use Rattle.lists.proofs.Below.{length_each}
use Rattle.lists.proofs.Filled.{fill_none, fill_turn, fill_all}
use Rattle.make_ids.proofs.Words.{byte_at, name_each}
use Rattle.make_ids.proofs.name.name_bytes.Goals as goal

pub loop-k-init : goal.loop-k-init
loop-k-init c = fill_none _ _ 32 0 refl

pub bounds-name-k : goal.bounds-name-k
bounds-name-k c = omega (arith, ap length c.loop-k.invariant ∙ length_each _ 32)

pub loop-k-preserved : goal.loop-k-preserved
loop-k-preserved c =
    let l = c.loop-k in
    fill_turn _ _ 32 l.k _ _ (omega arith) l.invariant c.byte_of.ensures

pub returns : goal.returns
returns c =
    let l = c.loop-k in
    let e : l.k ≡ 32 = omega arith in
    let w = c.args.words.now in
    rw e at l.invariant ∙ fill_all (byte_at w) _ 32 ∙ name_each w
