-- `keys::word_product` meets its contract.
use Prim.Native.Nat.{ℕ, ◌*◌}
use native.Mathlib.Omega.{arith}
use mathlib.Core.Path.{ap}
use borrow.Author.Rules.{rules}
use Rattle.rule_keys.specs.Keys.{word_product}
use Rattle.rule_keys.proofs.Products.{product_below}
use Rattle.rule_keys.proofs.keys.word_product.Goals as goal

pub overflow_mul-result : goal.overflow_mul-result
overflow_mul-result c = let p = product_below c.name_word.result c.args.factor (search rules) c.requires.2 in record { fits = omega arith }

pub returns : goal.returns
unfolding word_product
returns c =
    (ap (λ (w : ℕ). w * c.args.factor) c.name_word.ensures, product_below c.name_word.result c.args.factor (search rules) c.requires.2)
