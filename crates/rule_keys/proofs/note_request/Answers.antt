-- `note_request` meets its contract.
use native.Mathlib.Omega.{arith}
use mathlib.Core.Path.{sym}
use mathlib.Core.List.{append-nil}
use borrow.Author.Tests.{eq-eqb, ne_eqb}
use Rattle.lists.specs.Below.{element_if}
use Rattle.rule_keys.proofs.note_request.Goals as goal

pub returns-then-c-eq1 : goal.returns-then-c-eq1
unfolding element_if
returns-then-c-eq1 c = (rw (eq-eqb _ 1 c.if-c-eq1.true, ← c.request_key.ensures) c.note.ensures.0, omega arith)

pub returns-else-c-eq1 : goal.returns-else-c-eq1
unfolding element_if
returns-else-c-eq1 c = (rw (ne_eqb _ 1 c.if-c-eq1.false) (sym (append-nil _)), omega arith)
