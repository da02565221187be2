-- `add_connection`: each return has the tests of its answer, over both look-ups together.
use lib.Dec.{leb}
use Rattle.std.proofs.Common.{◌≡◌, ℕ, Bool, true, false, not, ◌&&◌, Option, None, refl, sym, ap, ◌∙◌}
use Rattle.std.specs.Option.{is_some}
use mathlib.Core.Bool.{true≢false}
use Rattle.messages.specs.declared.message.Message.TheVariants.{Add}
use Rattle.table.specs.Table.{Table}
use Rattle.table.specs.Lists.{entries, held}
use Rattle.table.specs.Words.{table_of}
use Rattle.answers.specs.declared.answer.Answer.TheVariants.{UnderOtherCall, ConnectionAdded, ConnectionAlreadyHeld, PathUnknownCall, NoPlaceLeft}
use Rattle.spec_calls.specs.PathRules.{held_by, lsp_of}
use Rattle.spec_calls.proofs.Decided.{add_elsewhere, add_again, add_unknown, add_full, add_new}
use Rattle.spec_changes.specs.Connections.{added_standalone, customer_of}
use Rattle.spec_changes.proofs.Tables.{added_standalone_lem, added_under_lem}
use Rattle.find_connection.proofs.Looks.{seen, call_in}
use Rattle.outcomes.proofs.Ruled.{ruled_by}
use Rattle.outcomes.proofs.Unanswered.{ruled_quiet}
use Rattle.answer_connection.proofs.add_connection.Goals as goal
use Rattle.answer_connection.proofs.add_connection.Goals.{in-Some, in_default, in_default-via-in-Some+else-not-none, in_default-via-in_default}

tests : (none r : Bool) (o : Option ℕ) → is_some o ≡ not r → (not none && not (is_some o)) ≡ (not none && r)
tests none true o e = rw e
tests none false o e = rw e

-- a connection without a call's slot, where 35 is not the answer
alone : (none : Bool) (o : Option ℕ) → (not none && not (is_some o)) ≡ false → o ≡ None → none ≡ true
alone true o h e = refl
alone false o h e = absurd (true≢false (rw e at h))

pub returns-then-u-l : goal.returns-then-u-l
returns-then-u-l c =
    let a = c.args in
    let t = table_of a.t.now in
    let s = seen t (held_by a.c) _ _ c.look_under-u.ensures c.look_standalone-l.ensures in
    ruled_quiet t _ _ (Add a.c) UnderOtherCall t _
    (add_elsewhere (entries t) (held t) (held_by a.c) (sym s.other ∙ c.if-u-l.true)) c.unanswered.ensures refl refl

pub returns-then-u-l-2 : goal.returns-then-u-l-2
returns-then-u-l-2 c =
    let a = c.args in
    let t = table_of a.t.now in
    let s = seen t (held_by a.c) _ _ c.look_under-u.ensures c.look_standalone-l.ensures in
    ruled_quiet t _ _ (Add a.c) ConnectionAlreadyHeld t _
    (add_again (entries t) (held t) (held_by a.c) (sym s.other ∙ c.if-u-l.false) (sym s.here ∙ c.if-u-l-2.true))
    c.unanswered-then-u-l-2.ensures refl refl

pub path_refused-requires : goal.path_refused-requires
path_refused-requires c = let p = c.requires in (p.2, p.3)

pub returns-then-none-is_none : goal.returns-then-none-is_none
returns-then-none-is_none c =
    let a = c.args in
    let t = table_of a.t.now in
    let s = seen t (held_by a.c) _ _ c.look_under-u.ensures c.look_standalone-l.ensures in
    let n = c.path_refused.ensures in
    ruled_by t _ _ (Add a.c) PathUnknownCall _ _ t _
    (add_unknown (entries t) (held t) (held_by a.c) (sym s.other ∙ c.if-u-l.false) (sym s.here ∙ c.if-u-l-2.false) (sym (s.missing _ c.is_no_call-none.ensures) ∙ tests _ _ _ c.is_none.ensures ∙ c.if-none-is_none.true))
    n.0 n.1 refl n.2

pub path_refused-requires-then-is_full : goal.path_refused-requires-then-is_full
path_refused-requires-then-is_full c = let p = c.requires in (p.2, p.3)

pub returns-then-is_full : goal.returns-then-is_full
returns-then-is_full c =
    let a = c.args in
    let t = table_of a.t.now in
    let s = seen t (held_by a.c) _ _ c.look_under-u.ensures c.look_standalone-l.ensures in
    let n = c.path_refused-then-is_full.ensures in
    ruled_by t _ _ (Add a.c) NoPlaceLeft _ _ t _
    (add_full (entries t) (held t) (held_by a.c) (sym s.other ∙ c.if-u-l.false) (sym s.here ∙ c.if-u-l-2.false)
    (sym (s.missing _ c.is_no_call-none.ensures) ∙ tests _ _ _ c.is_none.ensures ∙ c.if-none-is_none.false) (ap (leb 4) (sym s.four) ∙ sym c.is_full.ensures ∙ c.if-is_full.true))
    n.0 n.1 refl n.2

pub customer_of-k-requires : goal.customer_of-k-requires
customer_of-k-requires c = c.requires.1

pub add_under-requires : goal.add_under-requires
add_under-requires c =
    (call_in (table_of c.args.t.now) (held_by c.args.c) _ c.look_under-u.ensures _ c.in-Some.is).1

pub returns : goal.returns
returns c =
    let a = c.args in
    let t = table_of a.t.now in
    let x = held_by a.c in
    let s = seen t x _ _ c.look_under-u.ensures c.look_standalone-l.ensures in
    let missing = sym (s.missing _ c.is_no_call-none.ensures) ∙ tests _ _ _ c.is_none.ensures ∙ c.if-none-is_none.false in
    let sole : c.look_under-u.result.slot ≡ None → c.is_no_call-none.result ≡ true = λ e. alone _ _ (tests _ _ _ c.is_none.ensures ∙ c.if-none-is_none.false) e in
    let with_customer = λ (k : ℕ) (u : Table) (e : u ≡ added_standalone t k (lsp_of a.c.lsp)) (n : c.is_no_call-none.result ≡ true) (d : k ≡ customer_of t a.c.lsp.sender). e ∙ added_standalone_lem t x k (sym c.is_no_call-none.ensures ∙ n) d in
    ruled_quiet t _ _ (Add a.c) ConnectionAdded _ _
    (add_new (entries t) (held t) x (sym s.other ∙ c.if-u-l.false) (sym s.here ∙ c.if-u-l-2.false) missing (ap (leb 4) (sym s.four) ∙ sym c.is_full.ensures ∙ c.if-is_full.false))
    c.unanswered-2.ensures
    (elim c.match-u.branch [
      | in-Some w ↦ ap table_of w.t-is ∙ w.add_under.ensures ∙ added_under_lem t x _ (sym c.is_no_call-none.ensures ∙ w.if-not-none.true) (call_in t x _ c.look_under-u.ensures _ w.in-Some.is).0
      | in_default w ↦ ap table_of w.t-is ∙ with_customer _ _ w.add_standalone.ensures (elim w.in_default.branch [
        | in_default-via-in-Some+else-not-none v ↦ v.if-not-none.false
        | in_default-via-in_default v ↦ sole v.in_default.is
      ]) w.customer_of-k.ensures.0
    ])
    refl
