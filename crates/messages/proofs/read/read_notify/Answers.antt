-- `read::read_notify` meets its contract: at each return the tests passed say which case of `notify_of` it is, and
-- complete objects lie within the message.
use native.Mathlib.Omega.{arith}
use mathlib.Core.Path.{sym, ◌∙◌, ap}
use Rattle.messages.specs.Status.{bit_set, delete_bit}
use Rattle.messages.specs.Read.{notify_of}
use Rattle.messages.proofs.Bounds.{notify_bounds}
use Rattle.messages.proofs.read.read_notify.Goals as goal

pub returns-then-not-notify_complete : goal.returns-then-not-notify_complete
unfolding notify_of
returns-then-not-notify_complete c = rw (sym c.notify_complete.ensures ∙ c.if-not-notify_complete.true)

pub overflow_add-template : goal.overflow_add-template
overflow_add-template c = omega (arith, notify_bounds _ _ (sym c.notify_complete.ensures ∙ c.if-not-notify_complete.false) c.requires)

pub get32-sender-requires : goal.get32-sender-requires
get32-sender-requires c = omega (arith, notify_bounds _ _ (sym c.notify_complete.ensures ∙ c.if-not-notify_complete.false) c.requires)

pub is_call_request-requires : goal.is_call_request-requires
is_call_request-requires c =
    let g = notify_bounds _ _ (sym c.notify_complete.ensures ∙ c.if-not-notify_complete.false) c.requires in
    (g.status, g.error)

pub returns-then-not-is_call_request : goal.returns-then-not-is_call_request
unfolding notify_of
returns-then-not-is_call_request c =
    rw (sym c.notify_complete.ensures ∙ c.if-not-notify_complete.false, sym c.is_call_request.ensures ∙ c.if-not-is_call_request.true, c.get32-sender.ensures)

pub overflow_add-status : goal.overflow_add-status
overflow_add-status c =
    omega (arith, notify_bounds _ _ (sym c.notify_complete.ensures ∙ c.if-not-notify_complete.false) c.requires)

pub get32-requires : goal.get32-requires
get32-requires c =
    omega (arith, notify_bounds _ _ (sym c.notify_complete.ensures ∙ c.if-not-notify_complete.false) c.requires)

pub bad_identity-requires : goal.bad_identity-requires
bad_identity-requires c =
    let g = notify_bounds _ _ (sym c.notify_complete.ensures ∙ c.if-not-notify_complete.false) c.requires in
    (g.session, g.name)

pub returns-then-bad_identity : goal.returns-then-bad_identity
unfolding notify_of
returns-then-bad_identity c =
    let closes = c.bit_set-closes.ensures ∙ ap (bit_set delete_bit) c.get32.ensures in
    rw (
      sym c.notify_complete.ensures ∙ c.if-not-notify_complete.false,
      sym c.is_call_request.ensures ∙ c.if-not-is_call_request.false,
      ← closes,
      sym c.bad_identity.ensures ∙ c.if-bad_identity.true,
      c.get32-sender.ensures,
    )

pub request_at-request-requires : goal.request_at-request-requires
request_at-request-requires c =
    let g = notify_bounds _ _ (sym c.notify_complete.ensures ∙ c.if-not-notify_complete.false) c.requires in
    (g.session, g.template, g.identifier, g.name)

pub returns-then-closes : goal.returns-then-closes
unfolding notify_of
returns-then-closes c =
    let closes = c.bit_set-closes.ensures ∙ ap (bit_set delete_bit) c.get32.ensures in
    rw (
      sym c.notify_complete.ensures ∙ c.if-not-notify_complete.false,
      sym c.is_call_request.ensures ∙ c.if-not-is_call_request.false,
      ← closes,
      sym c.bad_identity.ensures ∙ c.if-bad_identity.false,
      c.if-closes.true,
      c.request_at-request.ensures,
    )

pub returns : goal.returns
unfolding notify_of
returns c =
    let closes = c.bit_set-closes.ensures ∙ ap (bit_set delete_bit) c.get32.ensures in
    rw (
      sym c.notify_complete.ensures ∙ c.if-not-notify_complete.false,
      sym c.is_call_request.ensures ∙ c.if-not-is_call_request.false,
      ← closes,
      sym c.bad_identity.ensures ∙ c.if-bad_identity.false,
      c.if-closes.false,
      c.request_at-request.ensures,
    )
