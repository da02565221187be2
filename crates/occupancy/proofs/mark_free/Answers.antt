-- `mark_free` meets its contract: one word is stored, with the slot's bit clear.
use mathlib.Core.Path.{ap, ◌∙◌}
use Prim.Native.Nat.{ℕ, ◌/◌, ◌%◌}
use lib.ListN.{set}
use Rattle.table.specs.Word.{with_clear, with_free}
use Rattle.table.specs.Stores.{with_occupied}
use Rattle.table.specs.Words.{table_of}
use Rattle.occupancy.proofs.mark_free.Goals as goal

pub returns : goal.returns
unfolding with_free
returns c =
    let t = table_of c.args.t.now in
    let slot = c.args.slot in
    c.set_used_word.ensures
    ∙ ap (λ (w : ℕ). with_occupied t (set t.occupied (slot / 64) w)) (c.with_clear-word.ensures ∙ ap (λ (w : ℕ). with_clear w (slot % 64)) c.used_word.ensures)
