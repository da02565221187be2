use native.Mathlib.Omega.{arith}
use mathlib.Core.Path.{sym, ap, ◌∙◌}
use mathlib.Core.Bool.{not}
use Rattle.table.specs.Lists.{place_at, is_taken}
use Rattle.table_words.specs.Fours.{four_at_word}
use Rattle.fours.proofs.Places.{first_is, first_no}
use Rattle.fours.proofs.free_place.Goals as goal

pub returns-then-not-is_taken : goal.returns-then-not-is_taken
returns-then-not-is_taken c =
    first_is (λ j. not (is_taken (place_at (four_at_word c.args.t.now c.args.f) j))) 4 _ (omega arith) (ap not (sym c.is_taken.ensures ∙ c.if-not-is_taken.true))
    (λ k l. ap not (c.loop-j.invariant k l))

pub returns : goal.returns
returns c =
    (first_no (λ j. not (is_taken (place_at (four_at_word c.args.t.now c.args.f) j))) (λ k l. ap not (c.loop-j.invariant k (omega arith))), omega arith)
