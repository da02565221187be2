-- `handle_checked`: each return has the tests of its form; a message of no fault goes to the rules.
use Rattle.std.proofs.Common.{◌≡◌, Bool, true, false, Option, Some, None, Err, sym, ap, ◌∙◌}
use Rattle.std.specs.Option.{MatchOption, is_some}
use Rattle.messages.proofs.Inside.{read_inside}
use Rattle.table.specs.Words.{table_of}
use Rattle.answers.specs.declared.answer.Answer.TheVariants.{Malformed, SenderNotListed}
use Rattle.find_call.specs.declared.share.Listing.{Listing}
use Rattle.outcomes.proofs.Handled.{answered_faulty, answered_read, form_refused, form_unfit, form_unfit_unlisted, form_listed, form_unlisted}
use Rattle.outcomes.proofs.Unanswered.{left_quiet}
use Rattle.node.proofs.handle.handle_checked.Goals as goal

-- an address is listed where the look-up finds it
found : (o : Option Listing) (b : Bool) (P : Listing → Type 0) → MatchOption o (b ≡ false) (λ m. (b ≡ true) × P m) → b ≡ is_some o
found None b P h = h
found (Some m) b P h = h.0

pub returns-then-is_some : goal.returns-then-is_some
returns-then-is_some c =
    let t = table_of c.args.t.now in
    left_quiet t _ (Malformed _) _ c.unanswered-then-is_some.ensures
    ∙ sym (answered_faulty t _ _ (Malformed _)
    (form_unfit _ _ _ _ c.requires.1 _ _ _ (sym c.read.ensures ∙ c.in-Err-Unfit.is ∙ ap Err c.in-Err-Unfit.field-0-is) (found _ _ _ c.listing_of.ensures ∙ sym c.is_some.ensures ∙ c.if-is_some.true)))

pub handle_listed-requires : goal.handle_listed-requires
handle_listed-requires c =
    let t = table_of c.args.t.now in
    let e = sym c.read.ensures ∙ c.in-Ok.is in
    let listed = rw c.sender_of.ensures at c.in-Some.ensures in
    (c.requires.0, listed.0, read_inside _ _ _ e, c.requires.1, listed.1)

pub returns-in-Some : goal.returns-in-Some
returns-in-Some c =
    let t = table_of c.args.t.now in
    let e = sym c.read.ensures ∙ c.in-Ok.is in
    let listed = rw c.sender_of.ensures at c.in-Some.ensures in
    c.handle_listed.ensures ∙ sym (answered_read t _ _ _ (form_listed _ _ _ _ c.requires.1 _ _ e listed.0))

pub returns-in-Err-Misformed : goal.returns-in-Err-Misformed
returns-in-Err-Misformed c =
    let t = table_of c.args.t.now in
    left_quiet t _ (Malformed _) _ c.unanswered.ensures
    ∙ sym (answered_faulty t _ _ (Malformed _) (form_refused _ _ _ _ c.requires.1 _ _ _ (sym c.read.ensures ∙ c.in-Err-Misformed.is ∙ ap Err c.in-Err-Misformed.field-0-is)))

pub returns-else-is_some : goal.returns-else-is_some
returns-else-is_some c =
    let t = table_of c.args.t.now in
    left_quiet t _ SenderNotListed _ c.unanswered-in-Err-Unfit.ensures
    ∙ sym (answered_faulty t _ _ SenderNotListed
    (form_unfit_unlisted _ _ _ _ c.requires.1 _ _ _ (sym c.read.ensures ∙ c.in-Err-Unfit.is ∙ ap Err c.in-Err-Unfit.field-0-is) (found _ _ _ c.listing_of.ensures ∙ sym c.is_some.ensures ∙ c.if-is_some.false)))

pub returns-in_default : goal.returns-in_default
returns-in_default c =
    let t = table_of c.args.t.now in
    left_quiet t _ SenderNotListed _ c.unanswered-in_default.ensures
    ∙ sym (answered_faulty t _ _ SenderNotListed
    (form_unlisted _ _ _ _ c.requires.1 _ _ (sym c.read.ensures ∙ c.in-Ok.is) (rw c.sender_of.ensures at c.in_default.ensures)))
