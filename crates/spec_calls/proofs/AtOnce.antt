-- What 1 and 2 leave, and what 21 does (02, A7).
-- Assumes nothing.
use Prim.Native.Nat.{ℕ}
use mathlib.Core.Path.{◌≡◌, refl}
use mathlib.Core.List.{List, []}
use mathlib.Core.Bool.{true}
use lib.Dec.{ltb}
use lib.ListN.{length}
use Rattle.messages.specs.declared.message.CallRequest.{CallRequest}
use Rattle.messages.specs.declared.message.Message.TheVariants.{Open}
use Rattle.reply_objects.specs.Buffer.{least_buffer}
use Rattle.table.specs.Table.{Table}
use Rattle.table.specs.Rules.{rules_hold}
use Rattle.spec_changes.specs.Calls.{slot_of, refreshed_at}
use Rattle.answers.specs.declared.answer.Answer.TheVariants.{CallAlreadyOpen}
use Rattle.spec_calls.specs.Form.{form_of}
use Rattle.spec_calls.specs.CallRules.{is_named_by}
use Rattle.spec_calls.specs.Handling.{changed_by, table_after, handled}

-- a message refused 2 leaves the whole table, the time too, and closes nothing
pub small_leaves : (t : Table) (s buffer : List ℕ) (time period : ℕ) → rules_hold t ≡ true → ltb (length buffer) least_buffer ≡ true
    → ((handled t s buffer time period).table ≡ t) × ((handled t s buffer time period).closings ≡ [])
unfolding table_after form_of
small_leaves t s buffer time period h k = (rw (h, k), rw (h, k))

-- a retry refreshes the call that it is for, and changes nothing else
pub again_refreshes : (t : Table) (s : List ℕ) (q : CallRequest) → changed_by t s (Open q) CallAlreadyOpen ≡ refreshed_at t (slot_of t (is_named_by s q))
again_refreshes t s q = refl
