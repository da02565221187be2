-- `header::read_header` meets its contract: at each return the tests passed say which case of `header_of` it is.
use native.Mathlib.Omega.{arith}
use mathlib.Core.Path.{sym, ◌∙◌}
use borrow.Author.Tests.{eq-eqb, ne_eqb}
use Rattle.messages.specs.Header.{header_of}
use Rattle.messages.proofs.Bounds.{good_message_length}
use Rattle.messages.proofs.header.read_header.Goals as goal

pub returns-then-bad_message_length : goal.returns-then-bad_message_length
unfolding header_of
returns-then-bad_message_length c = simp (sym c.bad_message_length.ensures ∙ c.if-bad_message_length.true)

pub bounds-s-0 : goal.bounds-s-0
bounds-s-0 c = omega (arith, good_message_length _ (sym c.bad_message_length.ensures ∙ c.if-bad_message_length.false))

pub returns-then-s-ne1 : goal.returns-then-s-ne1
unfolding header_of
returns-then-s-ne1 c = simp (sym c.bad_message_length.ensures ∙ c.if-bad_message_length.false, ne_eqb _ _ c.if-s-ne1.true)

pub checksum_holds-requires : goal.checksum_holds-requires
checksum_holds-requires c = good_message_length _ (sym c.bad_message_length.ensures ∙ c.if-bad_message_length.false)

pub returns-then-not-checksum_holds : goal.returns-then-not-checksum_holds
unfolding header_of
returns-then-not-checksum_holds c =
    simp (sym c.bad_message_length.ensures ∙ c.if-bad_message_length.false, eq-eqb _ _ c.if-s-ne1.false, sym c.checksum_holds.ensures ∙ c.if-not-checksum_holds.true)

pub bounds-s-1 : goal.bounds-s-1
bounds-s-1 c = omega (arith, good_message_length _ (sym c.bad_message_length.ensures ∙ c.if-bad_message_length.false))

pub returns : goal.returns
unfolding header_of
returns c =
    simp (sym c.bad_message_length.ensures ∙ c.if-bad_message_length.false, eq-eqb _ _ c.if-s-ne1.false, sym c.checksum_holds.ensures ∙ c.if-not-checksum_holds.false, c.try_from.ensures)
