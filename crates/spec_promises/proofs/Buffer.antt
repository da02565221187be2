-- The reply buffer: every reply fits, so that it stands complete in front of the old bytes; and its words add up.
-- Assumes nothing.
use Prim.Native.Nat.{ℕ, ◌+◌, ◌≤◌, ◌<◌}
use native.Mathlib.Omega.{arith}
use mathlib.Core.Path.{◌≡◌, refl, sym, ap, ◌∙◌, subst}
use mathlib.Core.List.{List, [], ◌∷◌}
use mathlib.Core.Bool.{Bool, true, false, cond, not, ◌&&◌}
use lib.Dec.{ltb}
use lib.ListN.{length, take}
use lib.Seq.{length-sets}
use borrow.Author.Tests.{ltb-false}
use Rattle.numbers.specs.BigEndian.{Bytes}
use Rattle.numbers.specs.Buffer.{at_front}
use Rattle.numbers.specs.Checksum.{words_sum}
use Rattle.numbers.proofs.Buffer.{front_length, front_taken, front_dropped, nothing_written}
use Rattle.lists.proofs.Tests.{both}
use Rattle.messages.specs.declared.message.CallRequest.{CallRequest}
use Rattle.messages.specs.declared.message.Connection.{Connection}
use Rattle.messages.specs.declared.message.Message.TheVariants.{Open, Close, Add, Drop}
use Rattle.messages.specs.Status.{call_bit, delete_bit}
use Rattle.messages.specs.Inside.{CallInside, ConnectionInside}
use Rattle.reply_objects.specs.Buffer.{least_buffer}
use Rattle.reply_objects.specs.Header.{with_checksum}
use Rattle.replies.specs.Messages.{PathErrFits, NotifyFits, notify_bytes, notify_made_bytes, path_err_bytes}
use Rattle.replies.specs.Claims.{ErrorFits}
use Rattle.replies.proofs.Lengths.{path_err_length, notify_length}
use Rattle.replies.proofs.Filled.{notify_made_length}
use Rattle.replies.proofs.Sums.{path_err_adds_up, notify_adds_up, notify_made_adds_up}
use Rattle.table.specs.Table.{Call, Table}
use Rattle.table.specs.Total.{total_of}
use Rattle.table.specs.Zeros.{no_call}
use Rattle.table.specs.Lists.{Terms, roster, Ids, call_at, entries, held}
use Rattle.table.specs.Rules.{rules_hold}
use Rattle.table.proofs.Fresh.{zero_at}
use Rattle.spec_changes.specs.Shape.{Shape}
use Rattle.spec_changes.specs.Expiry.{raised, closings_of, elapsed}
use Rattle.spec_changes.proofs.Told.{rules_kept, kept_rules}
use Rattle.spec_changes.proofs.Freed.{shape_sized, is_in}
use Rattle.spec_changes.proofs.Expired.{elapsed_own, elapsed_call, elapsed_kept}
use Rattle.answers.specs.declared.answer.Answer.{Answer}
use Rattle.answers.specs.declared.answer.Answer.TheVariants.{TableBroken, BufferTooSmall, Malformed, SenderNotListed, UnderOtherCall, NotHeld, Late, CallOpened, CallAlreadyOpen, CallClosed, ConnectionAdded, ConnectionAlreadyHeld, ConnectionRemoved, CallIdContention, DuplicateCall, ConnectionsStillExist, UnknownCall, NoShare, PathUnknownCall, NoPlaceLeft}
use Rattle.answers.specs.Answers.{is, error_code, error_value, sends_notify, sends_path_err}
use Rattle.spec_changes.specs.Last.{Last, last_of}
use Rattle.spec_calls.specs.Form.{Form, faulty, sound, form_of}
use Rattle.spec_calls.specs.Handling.{form_answer, error_for, own_id, notify_for, path_err_for, answered_ids, answer_from2, form_reply, reply_after}
use Rattle.spec_calls.specs.CallRules.{ids_in, nameless, open_answer, close_answer}
use Rattle.spec_calls.specs.PathRules.{held_by, add_answer}
use Rattle.spec_calls.proofs.Sent.{notify_fits}
use Rattle.spec_calls.proofs.Answered.{IdsFit, answered_fit, answered_bytes}
use Rattle.spec_promises.specs.Promises.{Input, handled_by, fed, at_once, table_found}
use Rattle.spec_promises.specs.Claims.{InFront, BufferAfter, ReplyAddsUp}
use Rattle.spec_promises.proofs.Formed.{Says, form_says}
use Rattle.spec_promises.proofs.Found.{found_by, answer_1, answer_is}

-- every code has eight bits, every value sixteen
error_fits : (a : Answer) → (error_code a < 256) × (error_value a < 65536)
error_fits TableBroken = (omega arith, omega arith)
error_fits BufferTooSmall = (omega arith, omega arith)
error_fits (Malformed f) = (omega arith, omega arith)
error_fits SenderNotListed = (omega arith, omega arith)
error_fits UnderOtherCall = (omega arith, omega arith)
error_fits NotHeld = (omega arith, omega arith)
error_fits Late = (omega arith, omega arith)
error_fits CallOpened = (omega arith, omega arith)
error_fits CallAlreadyOpen = (omega arith, omega arith)
error_fits CallClosed = (omega arith, omega arith)
error_fits ConnectionAdded = (omega arith, omega arith)
error_fits ConnectionAlreadyHeld = (omega arith, omega arith)
error_fits ConnectionRemoved = (omega arith, omega arith)
error_fits CallIdContention = (omega arith, omega arith)
error_fits DuplicateCall = (omega arith, omega arith)
error_fits ConnectionsStillExist = (omega arith, omega arith)
error_fits UnknownCall = (omega arith, omega arith)
error_fits NoShare = (omega arith, omega arith)
error_fits PathUnknownCall = (omega arith, omega arith)
error_fits NoPlaceLeft = (omega arith, omega arith)

-- a reply that is sent or not
sent : (b : Bool) (r : List ℕ) (n : ℕ) → length r ≤ n → length (cond b r []) ≤ n
sent true r n h = h
sent false r n h = omega arith

sent_sum : (b : Bool) (r : List ℕ) → words_sum r ≡ 65535 → 0 < length (cond b r []) → words_sum (cond b r []) ≡ 65535
sent_sum true r e h = e
sent_sum false r e h = let z : ⊥ = omega arith in absurd z

module _ (t : Table) (s buffer : List ℕ) (room : least_buffer ≤ length buffer) (a : Answer) where
  abbrev fits : (q : CallRequest) (status : ℕ) → CallInside s q → NotifyFits s (notify_for t.address (own_id t) q status a) buffer
  fits q status i = notify_fits s buffer t.address (own_id t) q status a i room

  path_err_fits : (c : Connection) → ConnectionInside s c → PathErrFits s (path_err_for t.address c a) buffer
  path_err_fits c i = record { session = i.session; template = i.template; session_size = i.session_size; template_size = i.template_size; room = room }

  notify_most : (q : CallRequest) (status : ℕ) → CallInside s q → length (notify_bytes s (notify_for t.address (own_id t) q status a)) ≤ length buffer
  unfolding notify_bytes with_checksum
  notify_most q status i = simp length-sets (omega (arith, notify_length (fits q status i), i.attribute_most))

  path_err_most : (c : Connection) → ConnectionInside s c → length (path_err_bytes s (path_err_for t.address c a)) ≤ length buffer
  unfolding path_err_bytes with_checksum
  path_err_most c i = simp length-sets (omega (arith, path_err_length (path_err_fits c i)))

  made_most : (q : CallRequest) (c : Ids) → CallInside s q → IdsFit c → length (notify_made_bytes s (notify_for t.address (own_id t) q call_bit a) c.short c.long) ≤ length buffer
  made_most q c i f = omega (arith, notify_made_length c.short c.long (fits q call_bit i) f.most, f.most)

  -- ---- the sum of its words

  module _ (bytes : Bytes s) (address : t.address < 0x100000000) (next : t.next < 0x100000000) where
    error_numbers : ErrorFits (error_for t.address a)
    error_numbers = record { node = address; code = (error_fits a).0; value = (error_fits a).1 }

    notify_sum : (q : CallRequest) (status : ℕ) → status < 0x100000000 → CallInside s q → words_sum (notify_bytes s (notify_for t.address (own_id t) q status a)) ≡ 65535
    notify_sum q status h i =
        notify_adds_up s (notify_for t.address (own_id t) q status a) buffer bytes (fits q status i)
        (record { error = error_numbers; acknowledged = i.identifier_fits bytes; own = next; status = h })

    path_err_sum : (c : Connection) → ConnectionInside s c → words_sum (path_err_bytes s (path_err_for t.address c a)) ≡ 65535
    path_err_sum c i = path_err_adds_up s (path_err_for t.address c a) buffer bytes (path_err_fits c i) error_numbers

    made_sum : (q : CallRequest) (c : Ids) → CallInside s q → IdsFit c → Bytes c.long
        → words_sum (notify_made_bytes s (notify_for t.address (own_id t) q call_bit a) c.short c.long) ≡ 65535
    made_sum q c i f b =
        notify_made_adds_up s (notify_for t.address (own_id t) q call_bit a) buffer c.short c.long bytes (fits q call_bit i)
        (record { error = error_numbers; acknowledged = i.identifier_fits bytes; own = next; status = omega arith }) f.sixteen b f.most

-- ---- by the form of the message, in a table that keeps the rules

module _ (t : Table) (s buffer : List ℕ) (room : least_buffer ≤ length buffer) (rules : rules_hold t ≡ true) where
  abbrev open_by : CallRequest → Answer
  open_by q = open_answer (total_of t) (roster t) (entries t) s q

  open_fits : (q : CallRequest) (b : Bool) → CallInside s q → (nameless q && not (is 34 (open_by q))) ≡ b
      → length (cond b (notify_made_bytes s (notify_for t.address (own_id t) q call_bit (open_by q)) (answered_ids t s q (open_by q)).short (answered_ids t s q (open_by q)).long)
      (notify_bytes s (notify_for t.address (own_id t) q call_bit (open_by q)))) ≤ length buffer
  open_fits q true i e = made_most t s buffer room (open_by q) q (answered_ids t s q (open_by q)) i (answered_fit t s q rules e)
  open_fits q false i e = notify_most t s buffer room (open_by q) q call_bit i

  form_fits : (f : Form) → Says (roster t) s f → length (form_reply t s f (form_answer t s f)) ≤ length buffer
  form_fits (faulty _) i = omega arith
  form_fits (sound (Open q)) i = sent (sends_notify (open_by q)) _ (length buffer) (open_fits q (nameless q && not (is 34 (open_by q))) i.inside.0 refl)
  form_fits (sound (Close q)) i =
      let a = close_answer (entries t) (held t) (ids_in s q) in
      sent (sends_notify a) _ (length buffer) (notify_most t s buffer room a q (call_bit + delete_bit) i.inside.0)
  form_fits (sound (Add c)) i =
      let a = add_answer (entries t) (held t) (held_by c) in
      sent (sends_path_err a) _ (length buffer) (path_err_most t s buffer room a c i.inside)
  form_fits (sound (Drop c)) i = omega arith

  module _ (bytes : Bytes s) (address : t.address < 0x100000000) (next : t.next < 0x100000000) (names : (i : ℕ) → Bytes (call_at t i).name) where
    open_sum : (q : CallRequest) (b : Bool) → CallInside s q → (nameless q && not (is 34 (open_by q))) ≡ b
        → words_sum (cond b (notify_made_bytes s (notify_for t.address (own_id t) q call_bit (open_by q)) (answered_ids t s q (open_by q)).short (answered_ids t s q (open_by q)).long)
        (notify_bytes s (notify_for t.address (own_id t) q call_bit (open_by q)))) ≡ 65535
    open_sum q true i e =
        made_sum t s buffer room (open_by q) bytes address next q (answered_ids t s q (open_by q)) i (answered_fit t s q rules e)
        (answered_bytes t s q names (open_by q) (both (nameless q) (not (is 34 (open_by q))) e).0)
    open_sum q false i e = notify_sum t s buffer room (open_by q) bytes address next q call_bit (omega arith) i

    form_sum : (f : Form) → Says (roster t) s f → 0 < length (form_reply t s f (form_answer t s f)) → words_sum (form_reply t s f (form_answer t s f)) ≡ 65535
    form_sum (faulty _) i h = let z : ⊥ = omega arith in absurd z
    form_sum (sound (Open q)) i h = sent_sum (sends_notify (open_by q)) _ (open_sum q (nameless q && not (is 34 (open_by q))) i.inside.0 refl) h
    form_sum (sound (Close q)) i h =
        let a = close_answer (entries t) (held t) (ids_in s q) in
        sent_sum (sends_notify a) _ (notify_sum t s buffer room a bytes address next q (call_bit + delete_bit) (omega arith) i.inside.0) h
    form_sum (sound (Add c)) i h =
        let a = add_answer (entries t) (held t) (held_by c) in
        sent_sum (sends_path_err a) _ (path_err_sum t s buffer room a bytes address next c i.inside) h
    form_sum (sound (Drop c)) i h = let z : ⊥ = omega arith in absurd z

-- ---- in a table that breaks them nothing is sent

broken_reply : (t : Table) (s : List ℕ) (f : Form) → form_reply t s f TableBroken ≡ []
broken_reply t s (faulty _) = refl
broken_reply t s (sound (Open q)) = refl
broken_reply t s (sound (Close q)) = refl
broken_reply t s (sound (Add c)) = refl
broken_reply t s (sound (Drop c)) = refl

too_short : (r : List Terms) (k : ℕ → Last) (s : List ℕ) (room : ℕ) → ltb room least_buffer ≡ true → form_of r k s room ≡ faulty BufferTooSmall
unfolding form_of
too_short r k s room e = rw e

-- in a buffer of any length: in one that is too short nothing is written
module _ (t : Table) (s buffer : List ℕ) where
  abbrev form : Form
  form = form_of (roster t) (last_of t) s (length buffer)

  kept_fits : rules_hold t ≡ true → length (form_reply t s form (form_answer t s form)) ≤ length buffer
  kept_fits h = by (ltb (length buffer) least_buffer) refl
    where
      by : (b : Bool) → ltb (length buffer) least_buffer ≡ b → length (form_reply t s form (form_answer t s form)) ≤ length buffer
      by true e = rw (too_short (roster t) (last_of t) s (length buffer) e) (omega arith)
      by false e = form_fits t s buffer (ltb-false _ _ e) h form (form_says (roster t) (last_of t) s (length buffer))

  pub message_fits : rules_hold t ≡ true → length (reply_after t s (length buffer) (answer_from2 t s (length buffer))) ≤ length buffer
  unfolding reply_after
  message_fits = kept_fits

  pub broken_none : reply_after t s (length buffer) TableBroken ≡ []
  unfolding reply_after
  broken_none = broken_reply t s form

-- the reply goes by the table that the message finds: it keeps the rules where the one handed in does
module _ (t : Table) (shape : Shape t) (x : Input) where
  abbrev found : Table
  found = table_found t x

  found_rules : rules_hold t ≡ true → rules_hold found ≡ true
  found_rules h = by (at_once (fed t x).answer)
    where
      by : (b : Bool) → rules_hold (cond b t (elapsed t x.time x.period)) ≡ true
      by true = h
      by false = kept_rules (elapsed t x.time x.period) (elapsed_kept t x.time x.period (shape_sized t shape) (rules_kept t h))

  abbrev reply : List ℕ
  reply = reply_after found x.message (length x.buffer) (fed t x).answer

  -- 1 sends nothing; any other answer is that from test 2 on
  by_rules : (P : List ℕ → Type 0) → P [] → (rules_hold t ≡ true → P (reply_after found x.message (length x.buffer) (answer_from2 found x.message (length x.buffer)))) → P reply
  by_rules P none some = by (rules_hold t) refl
    where
      by : (b : Bool) → rules_hold t ≡ b → P reply
      by true e = subst (λ a. P (reply_after found x.message (length x.buffer) a)) (sym (answer_is t x e)) (some e)
      by false e = subst P (sym (ap (λ a. reply_after found x.message (length x.buffer) a) (answer_1 t x e) ∙ broken_none found x.message x.buffer)) none

  reply_fits : length reply ≤ length x.buffer
  reply_fits = by_rules (λ r. length r ≤ length x.buffer) (omega arith) (λ e. message_fits found x.message x.buffer (found_rules e))

pub buffer_after : BufferAfter
buffer_after t shape x = record { reply = subst (InFront r x.buffer) (sym (found_by t x).buffer) in_front; none = λ e. (found_by t x).buffer ∙ nothing r (sym (found_by t x).length ∙ e) }
  where
    r : List ℕ
    r = reply t shape x

    in_front : InFront r x.buffer (at_front r x.buffer)
    in_front = record { front = front_taken r x.buffer (length r) refl; behind = front_dropped r x.buffer; long = front_length r x.buffer (reply_fits t shape x) }

    nothing : (r : List ℕ) → length r ≡ 0 → at_front r x.buffer ≡ x.buffer
    nothing [] e = nothing_written x.buffer
    nothing (y ∷ r) e = let z : ⊥ = omega arith in absurd z

module _ (t : Table) (s buffer : List ℕ) (bytes : Bytes s) (address : t.address < 0x100000000) (next : t.next < 0x100000000) (names : (i : ℕ) → Bytes (call_at t i).name) where
  message_sum : rules_hold t ≡ true → 0 < length (reply_after t s (length buffer) (answer_from2 t s (length buffer))) → words_sum (reply_after t s (length buffer) (answer_from2 t s (length buffer))) ≡ 65535
  unfolding reply_after
  message_sum h some = by (ltb (length buffer) least_buffer) refl
    where
      by : (b : Bool) → ltb (length buffer) least_buffer ≡ b → words_sum (form_reply t s (form t s buffer) (form_answer t s (form t s buffer))) ≡ 65535
      by true e =
          let none : form_reply t s (form t s buffer) (form_answer t s (form t s buffer)) ≡ [] = rw (too_short (roster t) (last_of t) s (length buffer) e) in
          let z : ⊥ = omega (arith, some, ap length none) in
          absurd z
      by false e = form_sum t s buffer (ltb-false _ _ e) h bytes address next names (form t s buffer) (form_says (roster t) (last_of t) s (length buffer)) some

-- a free slot's name is bytes too
no_name : Bytes no_call.name
unfolding no_call
no_name k = omega (arith, zero_at 32 k)

module _ (t : Table) (shape : Shape t) (x : Input) (address : t.address < 0x100000000) (next : t.next < 0x100000000) (names : (i : ℕ) → Bytes (call_at t i).name) where
  abbrev Numbers : Table → Type 0
  Numbers u = (u.address < 0x100000000) × (u.next < 0x100000000) × ((i : ℕ) → Bytes (call_at u i).name)

  found_numbers : Numbers (table_found t x)
  found_numbers = by (at_once (fed t x).answer)
    where
      left : (b : Bool) (c : Call) → Bytes c.name → Bytes (cond b no_call c).name
      left true c h = no_name
      left false c h = h

      by : (b : Bool) → Numbers (cond b t (elapsed t x.time x.period))
      by true = (address, next, names)
      by false = (
        rw (elapsed_own t x.time x.period).0 address,
        rw (elapsed_own t x.time x.period).2 next,
        λ i. rw (elapsed_call t x.time x.period (shape_sized t shape) i) (left (is_in (closings_of (raised t x.time) x.period) i) (call_at t i) (names i)),
      )

  reply_sum : 0 < length (reply t shape x) → words_sum (reply t shape x) ≡ 65535
  reply_sum =
      by_rules t shape x (λ r. 0 < length r → words_sum r ≡ 65535) (λ h. let z : ⊥ = omega arith in absurd z)
      (λ e. message_sum (table_found t x) x.message x.buffer x.bytes found_numbers.0 found_numbers.1 found_numbers.2 (found_rules t shape x e))

pub reply_adds_up : ReplyAddsUp
reply_adds_up t shape x address next names some =
    let n = (found_by t x).length in
    ap (λ (m : ℕ). words_sum (take m (handled_by t x).buffer)) n ∙ ap words_sum (buffer_after t shape x).reply.front
    ∙ reply_sum t shape x address next names (omega (arith, n, some))
