-- `read_checkpoint` meets its contract: each answer follows from the tests before it.
use native.Mathlib.Omega.{arith}
use mathlib.Core.Path.{◌≡◌, refl, sym, ap}
use borrow.Author.Rules.{rules}
use Rattle.std.specs.Prelude.{Err}
use lib.ListN.{length}
use Rattle.table.specs.declared.answer.RosterFault.{RosterFault}
use Rattle.table.specs.declared.answer.RosterFault.TheVariants.{Short, BadForm, Length, SpareBits, Share, Repeated, Guarantees}
use Rattle.table.specs.Roster.{roster_number}
use Rattle.checkpoint_read.specs.declared.ReadRefusal.TheVariants.{Roster}
use Rattle.checkpoint_read.proofs.Answered.{fresh_rules, fresh_free, fresh_shaped, fresh_bare, roster_refused, size_refused, form_refused, checkpoint_read, checkpoint_refused}
use Rattle.checkpoint_read.proofs.read_checkpoint.Goals as goal

-- a fault has a number of its own
faulty : (fault : RosterFault) → roster_number (Err fault) ≡ 0 → ⊥
faulty Short e = omega arith
faulty BadForm e = omega arith
faulty Length e = omega arith
faulty SpareBits e = omega arith
faulty Share e = omega arith
faulty Repeated e = omega arith
faulty Guarantees e = omega arith

pub returns-in_err-read_roster : goal.returns-in_err-read_roster
returns-in_err-read_roster c =
    let g = c.args in
    let fault = c.in_err-read_roster.field-0.0 in
    let refusal : c.from_residual.result ≡ Err (Roster fault) = search rules in
    rw refusal (roster_refused g.salvage g.roster.now g.checkpoint.now _ _ _ c.read_roster.ensures.0 c.read_roster.ensures.1 (sym (ap roster_number c.in_err-read_roster.was)) (faulty fault))

pub returns-in_default : goal.returns-in_default
returns-in_default c =
    let g = c.args in
    size_refused g.salvage g.roster.now g.checkpoint.now _ _ _ c.read_roster.ensures.0 c.read_roster.ensures.1 (sym (ap roster_number c.in_ok-read_roster.was)) refl c.in_default.ensures

pub bounds-checkpoint-0 : goal.bounds-checkpoint-0
bounds-checkpoint-0 c = omega (arith, ap length c.in-Some.ensures.0, c.in-Some.c.size)

pub returns-then-checkpoint-ne1 : goal.returns-then-checkpoint-ne1
returns-then-checkpoint-ne1 c =
    let g = c.args in
    let right = c.in-Some.ensures.1 in
    (form_refused g.salvage g.roster.now g.checkpoint.now _ _ _ c.read_roster.ensures.0 c.read_roster.ensures.1 (sym (ap roster_number c.in_ok-read_roster.was)) refl right (λ e. omega arith))

pub read_records-d-requires : goal.read_records-d-requires
read_records-d-requires c =
    let g = c.args in (
      fresh_rules g.salvage g.roster.now g.checkpoint.now _ _ _ c.read_roster.ensures.0 c.read_roster.ensures.1 (sym (ap roster_number c.in_ok-read_roster.was)) (λ j. (c.shared_slice_known-1.given j).fits) (omega arith),
      fresh_free g.salvage g.roster.now g.checkpoint.now _ _ _ c.read_roster.ensures.0 c.read_roster.ensures.1 (sym (ap roster_number c.in_ok-read_roster.was)) refl,
      fresh_shaped g.salvage g.roster.now g.checkpoint.now _ _ _ c.read_roster.ensures.0 c.read_roster.ensures.1 (sym (ap roster_number c.in_ok-read_roster.was)) refl,
      fresh_bare g.salvage g.roster.now g.checkpoint.now _ _ _ c.read_roster.ensures.0 c.read_roster.ensures.1 (sym (ap roster_number c.in_ok-read_roster.was)) refl,
    )

pub returns-then-salvage-complete : goal.returns-then-salvage-complete
returns-then-salvage-complete c =
    let g = c.args in
    let right = c.in-Some.ensures.1 in
    checkpoint_read g.salvage g.roster.now g.checkpoint.now _ _ _ c.read_roster.ensures.0 c.read_roster.ensures.1 (sym (ap roster_number c.in_ok-read_roster.was)) _ (rw c.in-Some.ensures.0 at c.read_records-d.ensures) (omega arith) right (omega arith) c.if-salvage-complete.true

pub returns : goal.returns
returns c =
    let g = c.args in
    let right = c.in-Some.ensures.1 in
    (checkpoint_refused g.salvage g.roster.now g.checkpoint.now _ _ _ c.read_roster.ensures.0 c.read_roster.ensures.1 (sym (ap roster_number c.in_ok-read_roster.was)) _ (rw c.in-Some.ensures.0 at c.read_records-d.ensures) (omega arith) right (omega arith) _ c.read_roster-2.ensures.1 c.if-salvage-complete.false)
