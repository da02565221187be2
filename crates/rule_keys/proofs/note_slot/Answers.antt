-- `note_slot` meets its contract.
use native.Mathlib.Omega.{arith}
use mathlib.Core.Path.{sym, ◌∙◌}
use mathlib.Core.List.{append-nil}
use Rattle.lists.specs.Below.{list_if}
use Rattle.rule_keys.proofs.note_slot.Goals as goal

pub returns-then-is_used : goal.returns-then-is_used
unfolding list_if
returns-then-is_used c =
    let e = c.note_call.ensures in
    (rw (sym c.is_used.ensures ∙ c.if-is_used.true) e.0, e.1)

pub returns-else-is_used : goal.returns-else-is_used
unfolding list_if
returns-else-is_used c =
    (rw (sym c.is_used.ensures ∙ c.if-is_used.false) (sym (append-nil _)), omega arith)
