-- The bytes of a Notify: with the ID and the name of the call that the node made, if it did (02, A6).
use Rattle.std.specs.Prelude.{ℕ, List, Option, Some, None}
use Rattle.replies.specs.declared.notify.Notify.{Notify}
use Rattle.replies.specs.Messages.{notify_bytes, notify_made_bytes}
use Rattle.outcomes.specs.declared.request.MadeIds.{MadeIds}

abbrev pub sent_bytes : List ℕ → Notify → Option MadeIds → List ℕ
sent_bytes s n None = notify_bytes s n
sent_bytes s n (Some m) = notify_made_bytes s n m.call m.name.now
