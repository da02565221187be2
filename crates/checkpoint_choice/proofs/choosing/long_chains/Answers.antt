use Prim.Native.Nat.{◌+◌}
use mathlib.Core.Path.{◌≡◌, ap, ◌∙◌}
use native.Mathlib.Omega.{arith}
use lib.ListN.{length, get_or, length-set}
use Rattle.table.specs.Lists.{ids_of}
use Rattle.checkpoint_choice.specs.LongChain.{long_chain}
use Rattle.lists.proofs.Chain.{chain_start}
use Rattle.table_words.proofs.NameBytes.{zero_get}
use Rattle.checkpoint_choice.proofs.LongWalk.{chained_sound, chained_unsound}
use Rattle.checkpoint_choice.proofs.choosing.long_chains.Goals as goal
use Rattle.checkpoint_choice.proofs.choosing.long_chains.Goals.{then-sound-i-eq-CHAINED, else-sound-i-eq-CHAINED}

pub loop-k-init : goal.loop-k-init
loop-k-init c = (omega arith, chain_start _ _ _ _ (λ m. ap (λ l. get_or l m 0) c.requires ∙ zero_get 1024 m))

pub loop-k-preserved : goal.loop-k-preserved
loop-k-preserved c =
    let a = c.args in
    let i = c.loop-k.invariant in
    elim c.if-sound-i-eq-CHAINED.branch [
      | then-sound-i-eq-CHAINED w ↦ (
        ap length w.heads-is ∙ length-set c.loop-k.heads w.long_chain-m.result (c.loop-k.k + 1) ∙ i.0,
        rw (w.heads-is, w.links-is)
            (chained_sound a.f a.c.bytes.now a.sound.now c.loop-k.heads c.loop-k.links a.c.calls c.loop-k.k i.1 _ w.if-sound-i-eq-CHAINED.true (w.long_chain-m.ensures.0 ∙ ap (λ r. long_chain a.f (ids_of r.call)) w.call.ensures)
            (omega (arith, w.long_chain-m.ensures.1)) (omega arith)),
      )
      | else-sound-i-eq-CHAINED w ↦ (
        ap length w.heads-is ∙ i.0,
        rw (w.heads-is, w.links-is) (chained_unsound a.f a.c.bytes.now a.sound.now c.loop-k.heads c.loop-k.links a.c.calls c.loop-k.k i.1 w.if-sound-i-eq-CHAINED.false),
      )
    ]

pub returns : goal.returns
returns c =
    let e : c.loop-k.k ≡ c.args.c.calls = omega arith in
    record { room = c.loop-k.invariant.0; chains = rw e at c.loop-k.invariant.1 }
