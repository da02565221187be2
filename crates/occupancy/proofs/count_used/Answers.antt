-- `count_used` meets its contract: four words of 64 bits each.
use native.Mathlib.Omega.{arith}
use lib.Count.{ones, ones-le}
use Prim.Native.Nat.{◌^◌, ◌<◌}
use lib.ListN.{get_or}
use mathlib.Core.Path.{ap}
use Rattle.table.specs.Words.{table_of}
use Rattle.table.proofs.Cells.{used_long, used_fit}
use Rattle.table.proofs.Told.{four}
use Rattle.table.proofs.Ones.{four_words}
use borrow.Author.Rules.{rules}
use Rattle.occupancy.proofs.count_used.Goals as goal

pub overflow_add-result : goal.overflow_add-result
overflow_add-result c =
    omega (arith, ones-le 64 c.used_word.result (search rules), ones-le 64 c.used_word-2.result (search rules))

pub overflow_add-result-2 : goal.overflow_add-result-2
overflow_add-result-2 c =
    omega (
      arith,
      ones-le 64 c.used_word.result (search rules),
      ones-le 64 c.used_word-2.result (search rules),
      ones-le 64 c.used_word-3.result (search rules),
    )

pub overflow_add-result-3 : goal.overflow_add-result-3
overflow_add-result-3 c =
    omega (
      arith,
      ones-le 64 c.used_word.result (search rules),
      ones-le 64 c.used_word-2.result (search rules),
      ones-le 64 c.used_word-3.result (search rules),
      ones-le 64 c.used_word-4.result (search rules),
    )

pub returns : goal.returns
returns c =
    let w = c.args.t.now in
    let a = c.used_word.ensures in
    let b = c.used_word-2.ensures in
    let d = c.used_word-3.ensures in
    let e = c.used_word-4.ensures in (
      omega (arith, four_words (table_of w).occupied (used_long w), ap ones a, ap ones b, ap ones d, ap ones e),
      used_fit w (four (λ k. get_or (table_of w).occupied k 0 < 2 ^ 64) (omega (arith, a)) (omega (arith, b)) (omega (arith, d)) (omega (arith, e))),
    )
