-- `object::passed_over` meets its contract: its ranges and `passed_over` agree at each of the 256 classes, as antt
-- computes.
use Prim.Native.Nat.{ℕ}
use mathlib.Core.Path.{refl}
use mathlib.Core.Bool.{Bool, not, ◌&&◌, ◌||◌}
use lib.Dec.{leb, eqb}
use borrow.Author.Rules.{rules}
use Rattle.numbers.specs.Search.{is_in}
use Rattle.lists.specs.Below.{every_below}
use Rattle.lists.proofs.Below.{every_agree}
use Rattle.objects.specs.Classes.{passed_over}
use Rattle.objects.proofs.object.passed_over.Goals as goal

ranges : ℕ → Bool
ranges k =
    eqb k 0
    || (leb 3 k && leb k 5)
    || (leb 12 k && leb k 14)
    || (leb 19 k && leb k 21)
    || eqb k 24
    || (leb 34 k && leb k 37)
    || (leb 128 k && not (eqb k 196) && not (eqb k 207))

pub returns : goal.returns
unfolding ranges passed_over is_in every_below
returns c = every_agree ranges passed_over 256 refl c.args.class (search rules)
