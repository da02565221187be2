-- What a used slot holds fits the reply, and what the node makes is the call that the open is for.
-- Assumes nothing.
use Prim.Native.Nat.{ℕ, ◌<◌}
use mathlib.Core.Path.{◌≡◌, sym, ap, ◌∙◌}
use mathlib.Core.List.{List}
use mathlib.Core.Bool.{true}
use lib.ListN.{take, replicate}
use Rattle.numbers.specs.Buffer.{at_front}
use Rattle.numbers.proofs.Buffer.{front_taken}
use Rattle.messages.specs.declared.message.CallRequest.{CallRequest}
use Rattle.table.specs.Table.{Table}
use Rattle.table.specs.Total.{slots}
use Rattle.table.specs.Word.{is_used}
use Rattle.table.specs.Lists.{call_at, entries}
use Rattle.table.specs.Rules.{rules_hold}
use Rattle.spec_changes.proofs.Told.{rules_kept}
use Rattle.spec_changes.proofs.Valid.{Named, ids_named}
use Rattle.answers.specs.declared.answer.Answer.TheVariants.{CallOpened}
use Rattle.spec_calls.specs.CallRules.{nameless}
use Rattle.spec_calls.specs.Made.{made_name, made_ids, made_short, new_for}
use Rattle.spec_calls.specs.Handling.{open_reply}
use Rattle.spec_calls.proofs.MadeName.{name_length_lem}
use Rattle.spec_calls.proofs.Nameless.{made_new_call, reply_20}
use Rattle.answer_call.specs.Notified.{made_bytes}

-- a used slot's IDs fit their fields
pub slot_named : (t : Table) → rules_hold t ≡ true → (i : ℕ) → i < slots → is_used t.occupied i ≡ true → Named (call_at t i)
slot_named t h i l u = ids_named (call_at t i) ((rules_kept t h).names i l u)

module _ (t : Table) (s : List ℕ) (q : CallRequest) (n : nameless q ≡ true) (id : ℕ) (e : id ≡ made_short (entries t) q.endpoint q.sender) where
  pub made_is_new : record { ids = made_ids q.endpoint q.sender id; made = true; request = q.sequence } ≡ new_for (entries t) s q
  made_is_new = rw e (sym (made_new_call q n (entries t) s))

  -- the reply to 20, from the name as bytes with zeros behind them
  pub made_reply : (name : List ℕ) → name ≡ at_front (made_name q.endpoint q.sender id) (replicate 32 0) → made_bytes t s q CallOpened id (take 20 name) ≡ open_reply t s q CallOpened
  made_reply name d =
      let made = made_name q.endpoint q.sender id in
      let whole : take 20 name ≡ made = rw d (front_taken made (replicate 32 0) 20 (name_length_lem q.endpoint q.sender id)) in
      ap (λ x. made_bytes t s q CallOpened id x) whole ∙ rw e (sym (reply_20 q n t s))
