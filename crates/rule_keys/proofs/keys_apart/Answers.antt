use Prim.Native.Nat.{ℕ}
use native.Mathlib.Omega.{arith}
use mathlib.Core.Path.{◌≡◌, refl, sym, ◌∙◌}
use mathlib.Core.List.{[], append-nil}
use lib.Dec.{ltb}
use borrow.Author.Tests.{eqb-false, not-true}
use Rattle.lists.specs.Below.{list_if, below}
use Rattle.lists.proofs.Below.{below_none}
use Rattle.table.specs.Total.{slots}
use Rattle.table.specs.Lists.{customer_at, customer_four, held_in}
use Rattle.table.specs.Words.{table_of}
use Rattle.rule_keys.specs.Keys.{held_keys, call_keys_at}
use Rattle.rule_keys.proofs.Passes.{nothing_noted, pass_turn, slots_passed}
use Rattle.rule_keys.proofs.keys_apart.Goals as goal

pub invariant_of-noted : goal.invariant_of-noted
invariant_of-noted c = record { chained = nothing_noted; apart = λ h. refl }

pub loop-i-init : goal.loop-i-init
loop-i-init c = (sym (below_none _), omega arith)

pub loop-i-preserved : goal.loop-i-preserved
loop-i-preserved c =
    let e = c.note_slot.ensures in
    (pass_turn (call_keys_at (table_of c.args.t.now)) c.loop-i.i [] _ _ c.loop-i.invariant.0 e.0, omega arith)

pub loop-k-init : goal.loop-k-init
loop-k-init c =
    let t = table_of c.args.t.now in
    let u = c.used_below-i-end in
    let e : c.loop-i.i ≡ u.result = omega arith in
    let p = slots_passed t u.result _ u.ensures.0 u.ensures.1 (rw e at c.loop-i.invariant.0) in
    (rw (below_none _) (p ∙ sym (append-nil _)), omega arith)

pub loop-k-preserved : goal.loop-k-preserved
loop-k-preserved c =
    let t = table_of c.args.t.now in
    let e = c.note_record.ensures in
    let f = λ (j : ℕ). list_if (ltb j c.listed-listed.result) (held_keys (held_in (customer_four (customer_at t j)))) in
    (pass_turn f c.loop-k.k (below (call_keys_at t) slots) _ _ c.loop-k.invariant.0 e.0, omega arith)

pub returns : goal.returns
returns c =
    let e : c.loop-k.k ≡ 8 = omega arith in
    let same = rw c.listed-listed.ensures at (rw e at c.loop-k.invariant.0) in
    λ h.
    let left = eqb-false c.loop-k.noted.left 0 (not-true _ h) in
    rw (← same) (c.loop-k.noted.apart (omega arith))
