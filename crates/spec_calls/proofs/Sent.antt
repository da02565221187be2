-- A Notify that answers a request has the parts that its writer asks for.
-- Assumes nothing.
use Prim.Native.Nat.{ℕ, ◌≤◌}
use mathlib.Core.List.{List}
use lib.ListN.{length}
use Rattle.objects.specs.declared.fields.MessageId.{MessageId}
use Rattle.messages.specs.declared.message.CallRequest.{CallRequest}
use Rattle.messages.specs.Inside.{CallInside}
use Rattle.reply_objects.specs.Buffer.{least_buffer}
use Rattle.replies.specs.Messages.{NotifyFits}
use Rattle.answers.specs.declared.answer.Answer.{Answer}
use Rattle.spec_calls.specs.Handling.{notify_for}

pub notify_fits : (s buffer : List ℕ) (node : ℕ) (own : MessageId) (q : CallRequest) (status : ℕ) (a : Answer) → CallInside s q → least_buffer ≤ length buffer
    → NotifyFits s (notify_for node own q status a) buffer
notify_fits s buffer node own q status a i room = record {
  session = i.session;
  template = i.template;
  attribute = i.attribute;
  session_size = i.session_size;
  template_size = i.template_size;
  attribute_least = i.attribute_least;
  attribute_most = i.attribute_most;
  attribute_fours = i.attribute_fours;
  room = room;
}
