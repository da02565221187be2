-- What handling a message means: from table, message, reply buffer, time and period, whatever they hold, to answer,
-- closings, table and buffer afterwards. The answer is decided first; table and reply follow from it.
use Rattle.std.specs.Prelude.{ℕ, ◌+◌, List, [], cond, not, ◌&&◌, ltb, length}
use Rattle.numbers.specs.Buffer.{at_front}
use Rattle.objects.specs.declared.fields.MessageId.{MessageId}
use Rattle.messages.specs.declared.message.CallRequest.{CallRequest}
use Rattle.messages.specs.declared.message.Connection.{Connection}
use Rattle.messages.specs.declared.message.Message.{Message}
use Rattle.messages.specs.declared.message.Message.TheVariants.{Open, Close, Add, Drop}
use Rattle.messages.specs.Status.{call_bit, delete_bit}
use Rattle.replies.specs.declared.notify.Notify.{Notify}
use Rattle.replies.specs.declared.path_err.PathErr.{PathErr}
use Rattle.reply_objects.specs.declared.writers.ErrorSpec.{ErrorSpec}
use Rattle.reply_objects.specs.Buffer.{least_buffer}
use Rattle.replies.specs.Messages.{notify_bytes, notify_made_bytes, path_err_bytes}
use Rattle.table.specs.Table.{Table}
use Rattle.table.specs.Total.{total_of}
use Rattle.table.specs.Lists.{roster, Ids, call_at, ids_of, entries, held}
use Rattle.table.specs.Rules.{rules_hold}
use Rattle.spec_changes.specs.Calls.{opened, slot_of, closed, refreshed_at, identifier_taken}
use Rattle.spec_changes.specs.Connections.{added, removed}
use Rattle.spec_changes.specs.Last.{last_of, last_kept}
use Rattle.spec_changes.specs.Expiry.{Closing, raised, closings_of, elapsed}
use Rattle.answers.specs.declared.answer.Answer.{Answer}
use Rattle.answers.specs.declared.answer.Answer.TheVariants.{TableBroken}
use Rattle.answers.specs.Answers.{is, error_code, error_value, sends_notify, sends_path_err}
use Rattle.spec_calls.specs.Late.{keeps}
use Rattle.spec_calls.specs.Form.{Form, faulty, sound, form_of}
use Rattle.spec_calls.specs.CallRules.{ids_in, nameless, is_named_by, open_answer, close_answer}
use Rattle.spec_calls.specs.Made.{new_for}
use Rattle.spec_calls.specs.PathRules.{lsp_of, held_by, add_answer, drop_answer}

-- ---- the answer

-- a message of no fault, by its kind
abbrev pub rule_answer : Table → List ℕ → Message → Answer
rule_answer t s (Open q) = open_answer (total_of t) (roster t) (entries t) s q
rule_answer t s (Close q) = close_answer (entries t) (held t) (ids_in s q)
rule_answer t s (Add c) = add_answer (entries t) (held t) (held_by c)
rule_answer t s (Drop c) = drop_answer (held t) (lsp_of c.lsp)

abbrev pub form_answer : Table → List ℕ → Form → Answer
form_answer t s (faulty a) = a
form_answer t s (sound m) = rule_answer t s m

-- tests 2 to 13 and 16, then the rules
abbrev pub answer_from2 : Table → List ℕ → ℕ → Answer
answer_from2 t s room = form_answer t s (form_of (roster t) (last_of t) s room)

-- ---- the table afterwards

-- 20, 22, 23 and 25 change calls or connections, and no other answer does; 21 refreshes its call (02, A7)
abbrev pub changed_by : Table → List ℕ → Message → Answer → Table
changed_by t s (Open q) a =
    cond (is 20 a) (opened t (new_for (entries t) s q))
    (cond (is 21 a) (refreshed_at t (slot_of t (is_named_by s q)))
    t)
changed_by t s (Close q) a = cond (is 22 a) (closed t (ids_in s q)) t
changed_by t s (Add c) a = cond (is 23 a) (added t (held_by c)) t
changed_by t s (Drop c) a = cond (is 25 a) (removed t (lsp_of c.lsp)) t

-- the next own identifier moves with every Notify sent
abbrev pub identified : Answer → Table → Table
identified a t = cond (sends_notify a) (identifier_taken t) t

-- 02, A8: after an open or close that is answered 20 to 34, its sender's record has its MESSAGE_ID
abbrev pub remembered_of : CallRequest → Answer → Table → Table
remembered_of q a t = cond (keeps a) (last_kept t q.sender q.sequence) t

abbrev pub remembered : Message → Answer → Table → Table
remembered (Open q) a t = remembered_of q a t
remembered (Close q) a t = remembered_of q a t
remembered (Add c) a t = t
remembered (Drop c) a t = t

abbrev pub form_table : Table → List ℕ → Form → Answer → Table
form_table t s (faulty _) a = t
form_table t s (sound m) a = remembered m a (identified a (changed_by t s m a))

unfoldable pub table_after : Table → List ℕ → ℕ → Answer → Table
table_after t s room a = form_table t s (form_of (roster t) (last_of t) s room) a

-- ---- the reply (01, Reply bytes)

-- an answer's error, by the node of that address
abbrev pub error_for : ℕ → Answer → ErrorSpec
error_for node a = record { node = node; code = error_code a; value = error_value a }

-- the node's own epoch and next identifier
abbrev pub own_id : Table → MessageId
own_id t = record { epoch = t.epoch; identifier = t.next }

abbrev pub notify_for : ℕ → MessageId → CallRequest → ℕ → Answer → Notify
notify_for node own q status a = record {
  acknowledged = q.sequence;
  own = own;
  error = error_for node a;
  session = q.session;
  status = status;
  attribute = q.attribute;
  template = q.template;
}

abbrev pub path_err_for : ℕ → Connection → Answer → PathErr
path_err_for node c a = record { session = c.session; error = error_for node a; template = c.template }

-- 02, A6: the IDs that answers 20 and 21 to an open without names carry: those of the call that it is for
abbrev pub answered_ids : Table → List ℕ → CallRequest → Answer → Ids
answered_ids t s q a = cond (is 20 a) (new_for (entries t) s q).ids (ids_of (call_at t (slot_of t (is_named_by s q))))

-- C for an open. Without names its SESSION and SESSION_ATTRIBUTE carry the call's IDs, but for 34, which has no call
abbrev pub open_reply : Table → List ℕ → CallRequest → Answer → List ℕ
open_reply t s q a =
    cond (nameless q && not (is 34 a))
    (notify_made_bytes s (notify_for t.address (own_id t) q call_bit a) (answered_ids t s q a).short (answered_ids t s q a).long)
    (notify_bytes s (notify_for t.address (own_id t) q call_bit a))

-- C and D for a close
abbrev pub reply_to : Table → List ℕ → Message → Answer → List ℕ
reply_to t s (Open q) a = cond (sends_notify a) (open_reply t s q a) []
reply_to t s (Close q) a = cond (sends_notify a) (notify_bytes s (notify_for t.address (own_id t) q (call_bit + delete_bit) a)) []
reply_to t s (Add c) a = cond (sends_path_err a) (path_err_bytes s (path_err_for t.address c a)) []
reply_to t s (Drop c) a = []

abbrev pub form_reply : Table → List ℕ → Form → Answer → List ℕ
form_reply t s (faulty _) a = []
form_reply t s (sound m) a = reply_to t s m a

-- no bytes where nothing is sent
unfoldable pub reply_after : Table → List ℕ → ℕ → Answer → List ℕ
reply_after t s room a = form_reply t s (form_of (roster t) (last_of t) s room) a

-- ---- the message in the table that it finds

-- its answer, the reply's length, 0 where none is sent, the table and the buffer
pub record Answered : Type 0 where
  pub answer : Answer
  pub length : ℕ
  pub table : Table
  pub buffer : List ℕ

-- the buffer holds the complete reply and behind it its old bytes, or exactly its old bytes
abbrev pub answered_as : Table → List ℕ → List ℕ → Answer → Answered
answered_as t s buffer a = record {
  answer = a;
  length = length (reply_after t s (length buffer) a);
  table = table_after t s (length buffer) a;
  buffer = at_front (reply_after t s (length buffer) a) buffer;
}

-- from test 2 on
abbrev pub answered_in : Table → List ℕ → List ℕ → Answered
answered_in t s buffer = answered_as t s buffer (answer_from2 t s (length buffer))

-- ---- the whole

-- what the caller gets back: the same, and the calls that were closed before the message (02, A7)
pub record Handled : Type 0 where
  pub answer : Answer
  pub length : ℕ
  pub closings : List Closing
  pub table : Table
  pub buffer : List ℕ

abbrev pub handled_after : List Closing → Answered → Handled
handled_after closings a = record { answer = a.answer; length = a.length; closings = closings; table = a.table; buffer = a.buffer }

-- 1 comes before all, and then 2: the table stays as it is, its time too, and nothing is closed. Any other message finds
-- the table after the closings.
abbrev pub handled : Table → List ℕ → List ℕ → ℕ → ℕ → Handled
handled t s buffer time period =
    cond (not (rules_hold t)) (handled_after [] (answered_as t s buffer TableBroken))
    (cond (ltb (length buffer) least_buffer) (handled_after [] (answered_in t s buffer))
    (handled_after (closings_of (raised t time) period) (answered_in (elapsed t time period) s buffer)))
