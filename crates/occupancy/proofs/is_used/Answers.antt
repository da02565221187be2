-- `is_used` meets its contract: the slot's bit in its word.
use mathlib.Core.Path.{ap, ◌∙◌}
use Prim.Native.Nat.{ℕ, ◌%◌}
use Rattle.table.specs.Word.{is_set, is_used}
use Rattle.occupancy.proofs.is_used.Goals as goal

pub returns : goal.returns
unfolding is_used
returns c =
    let a = c.args in
    c.is_set.ensures ∙ ap (λ (w : ℕ). is_set w (a.slot % 64)) c.used_word.ensures
