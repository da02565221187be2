-- `word::with_set` meets its contract: the mask that the code shifts is the bit's power of two.
use Rattle.std.proofs.Common.{ℕ, ap, ◌∙◌}
use lib.Bits.{bit_or}
use Rattle.table.proofs.OneWord.{mask, or_set}
use Rattle.table.proofs.word.with_set.Goals as goal

pub returns : goal.returns
returns c = ap (λ (m : ℕ). bit_or c.args.word m) (mask c.args.i c.requires) ∙ or_set c.args.word c.args.i
