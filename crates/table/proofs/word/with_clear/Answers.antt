-- `word::with_clear` meets its contract: the mask that the code shifts is the bit's power of two.
use Rattle.std.proofs.Common.{ℕ, ◌-◌, ◌^◌, ap, ◌∙◌, rules}
use lib.Bits.{bit_and}
use Rattle.table.proofs.OneWord.{mask, and_clear_bit}
use Rattle.table.proofs.word.with_clear.Goals as goal

pub returns : goal.returns
returns c = ap (λ (m : ℕ). bit_and c.args.word (2 ^ 64 - 1 - m)) (mask c.args.i c.requires) ∙ and_clear_bit c.args.word c.args.i (search rules) c.requires
