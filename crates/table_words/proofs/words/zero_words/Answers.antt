use mathlib.Core.Path.{sym, ap, ◌∙◌}
use Prim.Native.Nat.{ℕ}
use lib.Dec.{eqb}
use Rattle.lists.proofs.Below.{every_none, every_turn}
use Rattle.table_words.proofs.Zeroed.{joined_zero}
use Rattle.table_words.proofs.words.zero_words.Goals as goal

pub loop-k-init : goal.loop-k-init
loop-k-init c = sym (every_none _)

pub loop-k-preserved : goal.loop-k-preserved
loop-k-preserved c =
    let l = c.loop-k in
    joined_zero l.joined c.word-joined.result ∙ every_turn _ _ _ _ l.invariant (ap (λ (x : ℕ). eqb x 0) c.word-joined.ensures)
