use native.Mathlib.Omega.{arith}
use mathlib.Core.Path.{◌≡◌, ◌∙◌}
use Rattle.rosters.proofs.Records.{taking_none, taking_turn, taking_all}
use Rattle.rosters.proofs.Roster.put.Goals as goal

pub loop-k-init : goal.loop-k-init
loop-k-init c = c.requires ∙ taking_none _

pub loop-k-preserved : goal.loop-k-preserved
loop-k-preserved c =
    let l = c.loop-k in
    let r = c.record-r.ensures in
    (rw (r.0, r.1, r.2) at c.put_terms.ensures) ∙ taking_turn _ c.args.self.now.bytes.now l.k (omega arith) l.invariant

pub returns : goal.returns
returns c =
    let s = c.args.self.now in
    let e : c.loop-k.k ≡ s.count = omega arith in
    (rw (c.from.ensures, c.from-2.ensures) at c.set_roster.ensures)
    ∙ taking_all _ s.bytes.now _ _ _ s.count (rw e at c.loop-k.invariant) c.get32.ensures c.get24.ensures s.form_is s.count_is
