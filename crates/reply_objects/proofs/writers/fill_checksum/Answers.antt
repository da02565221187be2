-- `writers::fill_checksum` meets its contract: in each branch what is stored is `checksum_of` the message, by the
-- branch's test.
use Prim.Native.Nat.{ℕ, ◌-◌}
use mathlib.Core.Path.{◌≡◌, sym}
use mathlib.Core.List.{List}
use lib.Seq.{length-take-le}
use borrow.Author.Tests.{eq-eqb, ne_eqb}
use Rattle.numbers.specs.Checksum.{words_sum}
use Rattle.reply_objects.specs.Header.{checksum_of}
use Rattle.reply_objects.proofs.writers.fill_checksum.Goals as goal

computed_zero : (s : List ℕ) (r : ℕ) → r ≡ words_sum s → 65535 - r ≡ 0 → checksum_of s ≡ 65535
unfolding checksum_of
computed_zero s r e h = rw (← e, eq-eqb (65535 - r) 0 h)

computed_other : (s : List ℕ) (r : ℕ) → r ≡ words_sum s → (65535 - r ≡ 0 → ⊥) → checksum_of s ≡ 65535 - r
unfolding checksum_of
computed_other s r e h = rw (← e, ne_eqb (65535 - r) 0 h)

pub slice_bounds-words_sum-end-2 : goal.slice_bounds-words_sum-end-2
slice_bounds-words_sum-end-2 c = sym (length-take-le _ _ c.requires.2)

pub words_sum-sum-requires : goal.words_sum-sum-requires
words_sum-sum-requires c = rw (length-take-le _ _ c.requires.2) c.requires.1

pub returns-then-checksum-eq0 : goal.returns-then-checksum-eq0
returns-then-checksum-eq0 c =
    rw (computed_zero _ _ c.words_sum-sum.ensures c.if-checksum-eq0.true) c.put16.ensures

pub returns-else-checksum-eq0 : goal.returns-else-checksum-eq0
returns-else-checksum-eq0 c =
    rw (computed_other _ _ c.words_sum-sum.ensures c.if-checksum-eq0.false) c.put16-else-checksum-eq0.ensures
