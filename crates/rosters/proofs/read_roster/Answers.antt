-- `read_roster` meets its contract: what the roster's tests answer is the answer.
use Rattle.std.proofs.Common.{Err, rules, ◌≡◌, refl, sym, ◌∙◌}
use Rattle.table.specs.Roster.{roster_answer}
use Rattle.rosters.proofs.Records.{table_fresh, table_empty, table_refused}
use Rattle.rosters.proofs.read_roster.Goals as goal

pub returns-in_err-roster : goal.returns-in_err-roster
returns-in_err-roster c =
    let e : c.from_residual.result ≡ Err c.in_err-roster.field-0.0 = search rules in
    rw (e, c.in_err-roster.ensures) (refl, table_refused _ _ _ c.clear_table.ensures)

pub returns-then-roster_number-eq0 : goal.returns-then-roster_number-eq0
returns-then-roster_number-eq0 c =
    let r = c.in_ok-roster.ensures in
    let answered : roster_answer c.args.s.now ≡ c.check-answer.result = r.1 ∙ sym (rw r.0 at c.check-answer.ensures) in
    rw answered (refl, table_fresh _ _ _ (sym c.roster_number.ensures ∙ c.if-roster_number-eq0.true) (rw r.0 at c.put.ensures))

pub returns-else-roster_number-eq0 : goal.returns-else-roster_number-eq0
returns-else-roster_number-eq0 c =
    let r = c.in_ok-roster.ensures in
    let answered : roster_answer c.args.s.now ≡ c.check-answer.result = r.1 ∙ sym (rw r.0 at c.check-answer.ensures) in
    rw answered (refl, table_empty _ _ _ (λ e. c.if-roster_number-eq0.false (c.roster_number.ensures ∙ e)) c.clear_table.ensures)
