use native.Mathlib.Omega.{arith}
use mathlib.Core.Path.{◌≡◌}
use borrow.Author.Tests.{eq-eqb, ne_eqb}
use Rattle.table.specs.Words.{table_of}
use Rattle.spec_changes.proofs.Freed.{words_sized}
use Rattle.expiry.proofs.Turns.{slot_turn, none_turned, none_elapsed, all_elapsed}
use Rattle.expiry.proofs.elapse.Goals as goal

pub returns-then-period-eq0 : goal.returns-then-period-eq0
returns-then-period-eq0 c =
    let a = c.args in
    none_elapsed (table_of a.t.now) a.at a.period _ _ c.raise_time.ensures (eq-eqb a.period 0 c.if-period-eq0.true)

pub loop-i-init : goal.loop-i-init
loop-i-init c = none_turned _ _ _

pub expire_slot-k-requires : goal.expire_slot-k-requires
expire_slot-k-requires c =
    let some : c.args.period ≡ 0 → ⊥ = c.if-period-eq0.false in
    (omega (arith, c.used_below-i-end.ensures.0), omega arith, c.loop-i.invariant.within)

pub loop-i-preserved : goal.loop-i-preserved
loop-i-preserved c =
    let a = c.args in
    slot_turn (table_of c.raise_time.new.t) a.period c.loop-i.i (words_sized c.raise_time.new.t) (omega (arith, c.used_below-i-end.ensures.0)) _ _ _ _ _ _ _ c.loop-i.invariant (omega arith)
    (rw (← c.time-node_time.ensures) c.expire_slot-k.ensures)

pub returns : goal.returns
returns c =
    let a = c.args in
    let e : c.loop-i.i ≡ c.used_below-i-end.result = omega arith in
    all_elapsed (table_of a.t.now) a.at a.period c.used_below-i-end.result _ _ (table_of c.raise_time.new.t) _ _ c.raise_time.ensures c.used_below-i-end.ensures.0 c.used_below-i-end.ensures.1 (ne_eqb a.period 0 c.if-period-eq0.false)
    (rw e at c.loop-i.invariant)
