-- The IDs that the node makes go by the counts alone: those made from the table's calls are those made from the ledger's
-- entries, in whatever order these stand.
-- Assumes nothing.
use Prim.Native.Nat.{ℕ, ◌*◌}
use mathlib.Core.Path.{◌≡◌, sym, ◌∙◌}
use mathlib.Core.List.{List}
use mathlib.Core.Bool.{Bool, true}
use lib.ListN.{length}
use Rattle.lists.specs.Count.{count_if}
use Rattle.lists.proofs.Count.{count_all}
use Rattle.lists.proofs.Search.{not_ext}
use Rattle.messages.specs.declared.message.CallRequest.{CallRequest}
use Rattle.table.specs.Lists.{Entry}
use Rattle.table.specs.Rules.{same_short, same_long}
use Rattle.spec_calls.specs.Made.{made_ids, is_unused, made_short, new_for}

module _ (l k : List Entry) (h : (p : Entry → Bool) → count_if p l ≡ count_if p k) where
  long_as : length l ≡ length k
  long_as = sym (count_all l) ∙ h (λ e. true) ∙ count_all k

  unused_same : (endpoint sender n : ℕ) → is_unused l (made_ids endpoint sender n) ≡ is_unused k (made_ids endpoint sender n)
  unfolding is_unused
  unused_same endpoint sender n = rw (h (λ e. same_short (made_ids endpoint sender n) e.ids), h (λ e. same_long (made_ids endpoint sender n) e.ids))

  pub made_same : (endpoint sender : ℕ) → made_short l endpoint sender ≡ made_short k endpoint sender
  unfolding made_short
  made_same endpoint sender = rw long_as (not_ext _ _ (2 * length k) 1 (λ j a. rw (unused_same endpoint sender j)))

  pub new_same : (s : List ℕ) (q : CallRequest) → new_for l s q ≡ new_for k s q
  new_same s q = rw (made_same q.endpoint q.sender)
