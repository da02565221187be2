-- What the look-up of a request says, in the words of the answers.
-- Assumes nothing.
use Rattle.std.proofs.Common.{◌≡◌, ℕ, ◌<◌, true, false, Some, None, sym, ◌∙◌}
use Rattle.std.specs.Bool.{then_some}
use Rattle.lists.specs.Count.{has}
use Rattle.lists.proofs.Count.{has_true}
use Rattle.table.specs.Table.{Table}
use Rattle.table.specs.Total.{slots}
use Rattle.table.specs.Lists.{Ids, entries, held}
use Rattle.spec_changes.specs.Calls.{is_call, slot_of}
use Rattle.spec_changes.specs.Connections.{is_under}
use Rattle.spec_changes.proofs.Slot.{found_slot}
use Rattle.spec_changes.proofs.Firsts.{none_of, some_of}
use Rattle.spec_calls.specs.CallRules.{is_open, short_in_use, long_in_use}
use Rattle.spec_calls.proofs.Ruled.{busy_under}
use Rattle.find_call.specs.declared.request.Look.{Look}
use Rattle.find_call.specs.Looks.{look_of}

pub record Found (t : Table) (c : Ids) (k : Look) : Type 0 where
  pub slot : k.slot ≡ then_some (is_open (entries t) c) (slot_of t (is_call c))
  pub long : k.long ≡ long_in_use (entries t) c
  pub short : k.short ≡ short_in_use (entries t) c
  pub busy : (c.short ≡ 0 → ⊥) → k.busy ≡ has (is_under c) (held t)

pub found : (t : Table) (c : Ids) (k : Look) → k ≡ look_of t c → Found t c k
unfolding look_of
found t c k e = record {
  slot = rw e;
  long = rw e;
  short = rw e;
  busy = λ n. rw e (sym (busy_under t c n));
}

module _ (t : Table) (c : Ids) (k : Look) (e : k ≡ look_of t c) where
  pub not_open : k.slot ≡ None → is_open (entries t) c ≡ false
  not_open h = none_of _ _ (sym (found t c k e).slot ∙ h)

  -- an open call, and where it stands: its slot is one of the table's
  pub open_in : (n : ℕ) → k.slot ≡ Some n → (is_open (entries t) c ≡ true) × (n ≡ slot_of t (is_call c)) × (n < slots)
  open_in n h =
      let s = some_of _ _ _ (sym (found t c k e).slot ∙ h) in
      (s.0, sym s.1, rw (← s.1) (found_slot t (is_call c) (has_true (is_call c) (entries t) s.0)).0)
