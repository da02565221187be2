use Rattle.std.proofs.Common.{refl, ap, ◌∙◌, add-one, arith}
use Rattle.numbers.specs.Checksum.{first_words, all_round, sum_so_far}
use Rattle.numbers.proofs.Sum.{round_step}
use Rattle.numbers.proofs.checksum.first_words_sum.Goals as goal

pub loop-k-init : goal.loop-k-init
unfolding first_words all_round
loop-k-init c = (omega arith, refl, omega arith)

pub loop-k-preserved : goal.loop-k-preserved
unfolding first_words
loop-k-preserved c =
    let i = c.loop-k in
    let s = c.args.s.now in
    (omega arith, rw add-one (c.add_round-sum.ensures ∙ rw (i.invariant.1, c.get16.ensures) (round_step (first_words s i.k) _ (omega arith))), rw add-one (omega arith))

pub returns : goal.returns
returns c =
    let i = c.loop-k in
    i.invariant.1 ∙ ap (sum_so_far c.args.s.now) (omega arith)
