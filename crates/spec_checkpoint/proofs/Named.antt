-- Single sentences of 02, A13, that the definitions keep.
-- Assumes nothing.
use mathlib.Core.Path.{refl}
use mathlib.Core.Bool.{not}
use borrow.Author.Tests.{eq-eqb}
use Rattle.lists.proofs.Tests.{both}
use Rattle.table.specs.Word.{is_used}
use Rattle.table.specs.Roster.{roster_number, roster_answer}
use Rattle.spec_changes.proofs.Told.{rules_kept}
use Rattle.spec_checkpoint.specs.Salvage.{placed, named_by, call_fits}
use Rattle.spec_checkpoint.specs.Restored.{restored}
use Rattle.spec_checkpoint.specs.Claims.{SlotNotLookedAt, TakenSlotDropped, ShareKept, RequestsKept, SizeFirst}

pub slot_not_looked_at : SlotNotLookedAt
unfolding named_by
slot_not_looked_at s c i j = refl

pub taken_slot_dropped : TakenSlotDropped
unfolding call_fits
taken_slot_dropped t r u = rw u

pub share_kept : ShareKept
unfolding call_fits
share_kept t r f = (rules_kept (placed t r) (both (not (is_used t.occupied r.slot)) _ f).1).calls.room

pub requests_kept : RequestsKept
unfolding call_fits
requests_kept t r f = (rules_kept (placed t r) (both (not (is_used t.occupied r.slot)) _ f).1).calls.requests

pub size_first : SizeFirst
unfolding restored
size_first salvage r s e b = rw (eq-eqb (roster_number (roster_answer r)) 0 e, b)
