-- `checksum::add_round` meets its contract: a sum that wrapped is smaller than either number, and has lost 65,536.
use Rattle.std.proofs.Common.{◌≡◌, ℕ, ◌+◌, ◌%◌, ◌<◌, refl, ap, ◌∙◌, arith}
use Rattle.numbers.specs.Checksum.{all_round}
use Rattle.numbers.proofs.checksum.add_round.Goals as goal

-- a carry that went round
one_round : (r : ℕ) → r < 65535 → r + 1 ≡ all_round (r + 65536)
unfolding all_round
one_round r h = omega arith

wrapped : (a b r : ℕ) → a < 65536 → b < 65536 → r ≡ (a + b) % 65536 → r < a → r + 1 ≡ all_round (a + b)
wrapped a b r ha hb e h = let s : r + 65536 ≡ a + b = omega arith in one_round r (omega arith) ∙ ap all_round s

pub returns-then-sum-a : goal.returns-then-sum-a
returns-then-sum-a c =
    wrapped c.args.a c.args.b _ c.ranges.a.fits c.ranges.b.fits refl c.if-sum-a.true

pub returns : goal.returns
unfolding all_round
returns c = omega arith
