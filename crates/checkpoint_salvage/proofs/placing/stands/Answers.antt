-- `placing::stands` meets its contract: the tests that the law asks for, in its order.
use Prim.Native.Nat.{ℕ, ◌<◌}
use mathlib.Core.Path.{◌≡◌, sym, ap, ◌∙◌}
use mathlib.Core.List.{List}
use mathlib.Core.Bool.{true, false}
use Rattle.lists.proofs.Tests.{both}
use Rattle.table.specs.Words.{table_of}
use Rattle.table.specs.Total.{total_of}
use Rattle.table.specs.Word.{is_used}
use Rattle.table.proofs.Cells.{used_long}
use Rattle.table.specs.Rules.{valid_ids, call_free_clear, rules_hold}
use Rattle.spec_changes.proofs.Words.{words_calls}
use Rattle.spec_changes.proofs.Valid.{ids_named}
use Rattle.spec_calls.specs.CallRules.{ids_in}
use Rattle.checkpoint_records.specs.declared.call.CallRecord.{CallRecord}
use Rattle.checkpoint_records.specs.Record.{read_of}
use Rattle.spec_checkpoint.specs.Salvage.{placed}
use Rattle.spec_checkpoint.proofs.Part.{record_bare}
use Rattle.find_call.proofs.Looks.{found}
use Rattle.checkpoint_salvage.proofs.Stands.{stands_beside, short_stands, stands_is}
use Rattle.checkpoint_salvage.proofs.placing.stands.Goals as goal

-- the law at the place where the function begins
law : (w : List ℕ) (r : CallRecord) → rules_hold (table_of w) ≡ true → (read_of r).slot < total_of (table_of w) → is_used (table_of w).occupied (read_of r).slot ≡ false
    → stands_beside (table_of w) (read_of r) ≡ rules_hold (placed (table_of w) (read_of r))
law w r rules inside free = stands_is (table_of w) (read_of r) (words_calls w) (used_long w) inside free (record_bare r.bytes.now r.number) rules

pub returns-then-not-tidy : goal.returns-then-not-tidy
returns-then-not-tidy c = rw (sym c.tidy.ensures ∙ c.if-not-tidy.true) at (law c.args.t.now c.args.r c.requires.0 c.requires.1 c.requires.2)

pub record_request-q-requires : goal.record_request-q-requires
record_request-q-requires c =
    let r = read_of c.args.r in
    ((ids_named r.call (both (valid_ids r.call) (call_free_clear r.call) (sym c.tidy.ensures ∙ c.if-not-tidy.false)).0).most)

pub returns-in_default : goal.returns-in_default
returns-in_default c =
    let same = ap (λ x. x.sender) c.record_request-q.ensures.0 in
    rw (sym c.tidy.ensures ∙ c.if-not-tidy.false, rw same at (c.in_default.ensures)) at (law c.args.t.now c.args.r c.requires.0 c.requires.1 c.requires.2)

pub returns-then-short_in_use : goal.returns-then-short_in_use
returns-then-short_in_use c =
    let r = read_of c.args.r in
    let e = c.record_request-q.ensures.0 in
    let short = rw e at (sym (c.short_in_use.ensures (ids_in c.args.r.bytes.now c.record_request-q.result).long) ∙ c.if-short_in_use.true) in
    sym (short_stands (table_of c.args.t.now) r short) ∙ law c.args.t.now c.args.r c.requires.0 c.requires.1 c.requires.2

pub returns-then-request_in_use : goal.returns-then-request_in_use
returns-then-request_in_use c =
    let same = ap (λ x. x.sender) c.record_request-q.ensures.0 in
    rw (
      sym c.tidy.ensures ∙ c.if-not-tidy.false,
      rw same at c.in-Some.ensures.0,
      sym c.request_in_use.ensures ∙ c.if-request_in_use.true,
    ) at (law c.args.t.now c.args.r c.requires.0 c.requires.1 c.requires.2)

pub returns-then-share_used_up : goal.returns-then-share_used_up
returns-then-share_used_up c =
    let same = ap (λ x. x.sender) c.record_request-q.ensures.0 in
    rw (
      sym c.tidy.ensures ∙ c.if-not-tidy.false,
      rw same at c.in-Some.ensures.0,
      sym c.request_in_use.ensures ∙ c.if-request_in_use.false,
      rw same at (sym c.share_used_up.ensures ∙ c.if-share_used_up.true),
    ) at (law c.args.t.now c.args.r c.requires.0 c.requires.1 c.requires.2)

pub look_up-look-requires : goal.look_up-look-requires
look_up-look-requires c =
    (c.requires.0, c.record_request-q.ensures.1, c.record_request-q.ensures.2)

pub returns : goal.returns
returns c =
    let e = c.record_request-q.ensures.0 in
    let same = ap (λ x. x.sender) e in
    let f = found (table_of c.args.t.now) _ _ c.look_up-look.ensures in
    rw (f.long, f.short, e)
    (rw (
      sym c.tidy.ensures ∙ c.if-not-tidy.false,
      rw same at c.in-Some.ensures.0,
      sym c.request_in_use.ensures ∙ c.if-request_in_use.false,
      rw same at (sym c.share_used_up.ensures ∙ c.if-share_used_up.false),
    ) at (law c.args.t.now c.args.r c.requires.0 c.requires.1 c.requires.2))
