use Rattle.std.proofs.Common.{rules, ◌≤◌}
use native.Mathlib.Omega.{arith}
use mathlib.Core.Path.{◌≡◌, refl, sym, ◌∙◌}
use Rattle.lists.proofs.Below.{has_none, has_turn, count_none, count_turn}
use Rattle.table_words.specs.Fours.{four_at_word}
use Rattle.spec_changes.proofs.Firsts.{as_bit}
use Rattle.spec_calls.specs.PathRules.{held_by}
use Rattle.find_connection.proofs.Match.{match_none, match_all}
use mathlib.Core.Path.{ap}
use mathlib.Core.Bool.{not}
use Rattle.find_connection.proofs.four.match_four.Goals as goal

pub returns-then-not-used-x : goal.returns-then-not-used-x
returns-then-not-used-x c =
    let z = c.args in
    match_none (held_by z.x) (four_at_word z.t.now z.f) z.used (ap not c.if-not-used-x.true)

pub loop-j-init : goal.loop-j-init
loop-j-init c = (omega arith, sym (has_none _ _), sym (count_none _ _))

pub loop-j-preserved : goal.loop-j-preserved
loop-j-preserved c =
    let i = c.loop-j.invariant in
    let one : c.from-four.result ≤ 1 = search rules in
    (omega arith, has_turn _ _ _ _ _ _ _ refl i.1 c.holds_at-held.ensures, count_turn _ _ _ _ _ _ _ refl i.2 (c.from-four.ensures ∙ as_bit _ ∙ rw c.counts_at.ensures))

pub returns : goal.returns
returns c =
    let z = c.args in
    let e : c.loop-j.j ≡ 4 = omega arith in
    match_all (held_by z.x) (four_at_word z.t.now z.f) z.used _ _ _ (ap not c.if-not-used-x.false) (rw e at c.loop-j.invariant.1) c.is_call-own.ensures (rw e at c.loop-j.invariant.2) (omega arith)
