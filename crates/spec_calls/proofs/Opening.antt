-- The call that an open is for: it fits its slot, and where the answer is 20 it may be opened.
-- Assumes nothing.
use Prim.Native.Nat.{ℕ, suc, ◌≤◌}
use native.Mathlib.Omega.{arith}
use mathlib.Core.Path.{◌≡◌, refl, sym, ◌∙◌}
use mathlib.Core.Logic.{◌⊎◌, inl, inr, ◌≢◌}
use mathlib.Core.List.{List}
use mathlib.Core.Bool.{Bool, true, false, cond, not, ◌&&◌}
use lib.ListN.{length, get_or, drop}
use lib.Seq.{get_or-take, get_or-drop}
use borrow.Author.Tests.{eq-eqb, ne_eqb, lt-ltb}
use Rattle.numbers.specs.BigEndian.{Bytes}
use Rattle.lists.specs.Count.{has}
use Rattle.lists.proofs.Count.{has_false, has_nothing}
use Rattle.messages.specs.declared.message.CallRequest.{CallRequest}
use Rattle.messages.specs.Inside.{CallInside, HasIds, HasNone}
use Rattle.table.specs.Lists.{Terms, Entry}
use Rattle.table.specs.Share.{is_listed}
use Rattle.table.specs.Rules.{same_request}
use Rattle.spec_changes.specs.Calls.{New, entry_for, is_call}
use Rattle.spec_changes.proofs.Kept.{MayOpen}
use Rattle.spec_changes.proofs.Opened.{Fits}
use Rattle.answers.specs.Answers.{is}
use Rattle.spec_calls.specs.CallRules.{ids_in, nameless, is_made_by, short_in_use, long_in_use, open_answer}
use Rattle.spec_calls.specs.Made.{made_for, new_for}
use Rattle.spec_calls.proofs.Names.{name_size}
use Rattle.spec_calls.proofs.MadeName as made
use Rattle.spec_calls.proofs.MadeFree.{made_free, made_new}
use Rattle.spec_calls.proofs.Decided.{ShareSays, share_says, open_says}

module _ (l : List Entry) (s : List ℕ) (q : CallRequest) where
  -- what the node makes, and what came with the request
  abbrev made_call : New
  made_call = record { ids = made_for l q.endpoint q.sender; made = true; request = q.sequence }

  abbrev named_call : New
  named_call = record { ids = ids_in s q; made = false; request = record { epoch = 0; identifier = 0 } }

  -- ---- it fits its slot

  -- the long ID of a request that was read ends in a byte that is not zero
  long_ends : CallInside s q → (k : ℕ) → length (ids_in s q).long ≡ suc k → get_or (ids_in s q).long k 0 ≢ 0
  long_ends i k e z =
      let n = name_size s q i.name in
      i.name_ends k (sym n ∙ e) (sym (get_or-take q.name.size (drop q.name.at s) k 0 (omega (arith, n, e)) ∙ get_or-drop q.name.at s k 0) ∙ z)

  named_fits : Bytes s → CallInside s q → HasIds q → Fits named_call
  named_fits bytes i h = record {
    short = h.call_some;
    sixteen = i.call_fits bytes;
    long = omega (arith, name_size s q i.name, h.name_some);
    most = omega (arith, name_size s q i.name, i.name_most);
    ends = long_ends i;
    request = refl;
  }

  made_fits : Bytes s → CallInside s q → length l ≤ 32767 → Fits made_call
  made_fits bytes i few =
      let n = made_free q.endpoint q.sender l few in
      record {
        short = omega (arith, n.positive);
        sixteen = n.fits;
        long = omega (arith, made.name_length_lem q.endpoint q.sender (made_for l q.endpoint q.sender).short);
        most = omega (arith, made.name_length_lem q.endpoint q.sender (made_for l q.endpoint q.sender).short);
        ends = made.name_ends_lem q.endpoint q.sender (made_for l q.endpoint q.sender).short;
        request = lt-ltb q.sequence.epoch 0x1000000 (i.epoch_fits bytes);
      }

  pub new_fits : Bytes s → CallInside s q → HasIds q ⊎ HasNone q → length l ≤ 32767 → Fits (new_for l s q)
  new_fits bytes i (inl h) few = rw (ne_eqb q.name.size 0 (omega (arith, h.name_some))) (named_fits bytes i h)
  new_fits bytes i (inr h) few = rw (eq-eqb q.name.size 0 h.name_none) (made_fits bytes i few)

  -- the sender is the request's
  pub new_sender : (new_for l s q).ids.sender ≡ q.sender
  new_sender = by (nameless q)
    where
      by : (b : Bool) → (cond b made_call named_call).ids.sender ≡ q.sender
      by true = refl
      by false = refl

  -- ---- it may be opened

  module _ (total : ℕ) (r : List Terms) (slot : ℕ) (known : is_listed r q.sender ≡ true) (few : length l ≤ 32767) where
    -- by what 20 says of the tests before it
    allowed : (b : Bool) → has (λ e. cond b (is_made_by q e) (is_call (ids_in s q) e)) l ≡ false → (not b && long_in_use l (ids_in s q)) ≡ false
        → (not b && short_in_use l (ids_in s q)) ≡ false → ShareSays false total r l q.sender → MayOpen total r l (entry_for slot (cond b made_call named_call))
    unfolding same_request ShareSays
    allowed true h long short share = record {
      known = known;
      new_short = has_false _ l (made_new q.endpoint q.sender l few).0;
      new_long = has_false _ l (made_new q.endpoint q.sender l few).1;
      new_request = has_false _ l h;
      under = share.0;
      share = share.1;
    }
    allowed false h long short share = record {
      known = known;
      new_short = has_false _ l short;
      new_long = has_false _ l long;
      new_request = has_false (same_request (entry_for slot named_call)) l (has_nothing (same_request (entry_for slot named_call)) l (λ e. refl));
      under = share.0;
      share = share.1;
    }

    -- 20 is given only where the call may be opened
    pub may_open : is 20 (open_answer total r l s q) ≡ true → MayOpen total r l (entry_for slot (new_for l s q))
    may_open h =
        let k = open_says total r l s q h in
        allowed (nameless q) k.0 k.1 k.2 (share_says total r l q.sender false k.3)
