use native.Mathlib.Nat.{sub-zero}
use native.Mathlib.Omega.{arith}
use mathlib.Core.Path.{refl, sym, ap, ◌∙◌}
use borrow.Author.Tests.{lt-ltb, le-ltb}
use Rattle.table.specs.Total.{total_for}
use Rattle.rosters.proofs.Records.{no_guarantees, one_more_guarantee, spare_bits, judged, summed}
use Rattle.rosters.proofs.Roster.check.Goals as goal

pub loop-k-init : goal.loop-k-init
loop-k-init c = (no_guarantees c.args.self.now.bytes.now, omega arith, rw sub-zero)

pub returns-then-r-ne0 : goal.returns-then-r-ne0
returns-then-r-ne0 c =
    sym (spare_bits _ _ _ _ (omega arith) c.record-r.ensures.3 c.if-r-ne0.true) ∙ c.loop-k.invariant.2

pub returns-then-bad_share : goal.returns-then-bad_share
returns-then-bad_share c =
    let r = c.record-r.ensures in
    let total = c.total_for-total.ensures.0 ∙ ap total_for (c.from.ensures ∙ c.args.self.now.form_is) in
    let e = judged _ _ _ _ _ _ _ _ _ _ (omega arith) r.3 c.if-r-ne0.false r.1 r.2 total r.0 c.bad_share.ensures refl in
    rw (sym c.loop-k.invariant.2 ∙ e, c.if-bad_share.true)

pub returns-then-listed_before : goal.returns-then-listed_before
returns-then-listed_before c =
    let r = c.record-r.ensures in
    let total = c.total_for-total.ensures.0 ∙ ap total_for (c.from.ensures ∙ c.args.self.now.form_is) in
    let e = judged _ _ _ _ _ _ _ _ _ _ (omega arith) r.3 c.if-r-ne0.false r.1 r.2 total r.0 c.bad_share.ensures c.listed_before.ensures in
    rw (sym c.loop-k.invariant.2 ∙ e, c.if-bad_share.false, c.if-listed_before.true)

pub loop-k-preserved : goal.loop-k-preserved
loop-k-preserved c =
    let i = c.loop-k.invariant in
    let r = c.record-r.ensures in
    let total = c.total_for-total.ensures.0 ∙ ap total_for (c.from.ensures ∙ c.args.self.now.form_is) in
    let e = judged c.args.self.now.bytes.now c.loop-k.k c.args.self.now.count _ _ _ _ _ _ _ (omega arith) r.3 c.if-r-ne0.false r.1 r.2 total r.0 c.bad_share.ensures c.listed_before.ensures in
    let f = rw (c.if-bad_share.false, c.if-listed_before.false) at e in
    (one_more_guarantee c.args.self.now.bytes.now c.loop-k.k _ _ r.1 i.0, omega (arith, r.4), sym f ∙ i.2)

pub returns-then-total-sum : goal.returns-then-total-sum
returns-then-total-sum c =
    let total = c.total_for-total.ensures.0 ∙ ap total_for (c.from.ensures ∙ c.args.self.now.form_is) in
    let e = summed _ _ _ _ _ (omega arith) total c.loop-k.invariant.0 in
    rw (sym c.loop-k.invariant.2 ∙ e, lt-ltb _ _ c.if-total-sum.true)

pub returns : goal.returns
returns c =
    let total = c.total_for-total.ensures.0 ∙ ap total_for (c.from.ensures ∙ c.args.self.now.form_is) in
    let e = summed _ _ _ _ _ (omega arith) total c.loop-k.invariant.0 in
    rw (sym c.loop-k.invariant.2 ∙ e, le-ltb _ _ c.if-total-sum.false)
