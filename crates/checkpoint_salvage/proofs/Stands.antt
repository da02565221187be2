-- A call in a free slot beside the calls of a table that keeps the rules: the table with it keeps them exactly where the
-- call's numbers are those of a call, its sender is listed and has room, and neither of its IDs nor, where the node made it,
-- its request is in use.
-- Assumes nothing.
use Prim.Native.Nat.{◌≤◌, ◌<◌}
use native.Mathlib.Omega.{arith}
use mathlib.Core.Path.{◌≡◌, refl}
use mathlib.Core.Logic.{◌⊎◌, inl, inr, ◌≢◌}
use mathlib.Core.List.{List, []}
use mathlib.Core.Bool.{Bool, true, false, not, ◌&&◌, and-false}
use lib.ListN.{length}
use borrow.Author.Tests.{not-true}
use Rattle.lists.specs.Count.{has}
use Rattle.lists.proofs.Tests.{both}
use Rattle.lists.proofs.Count.{has_false, false_has, has_nothing}
use Rattle.table.specs.Table.{Call, Table}
use Rattle.table.specs.Total.{slots, total_of}
use Rattle.table.specs.Word.{is_used, with_used}
use Rattle.table.specs.Lists.{roster, ids_of, Entry, entries, call_four, held_in}
use Rattle.table.specs.Share.{is_listed, guarantee_of, calls_of, S}
use Rattle.table.specs.Rules.{same_request, valid_ids, call_free_clear, rules_hold}
use Rattle.table.proofs.Names.{alike}
use Rattle.table.proofs.Slots.{used_here}
use Rattle.table.proofs.Within.{total_most}
use Rattle.spec_changes.specs.Expiry.{raised}
use Rattle.spec_changes.proofs.Kept.{Kept, MayOpen, calls_open, calls_opened}
use Rattle.spec_changes.proofs.Told.{roster_kept, rules_kept, kept_rules}
use Rattle.spec_changes.proofs.Slot.{call_here}
use Rattle.spec_calls.specs.CallRules.{short_in_use, long_in_use, share_used_up}
use Rattle.spec_calls.proofs.Decided.{ShareSays, share_says}
use Rattle.spec_checkpoint.specs.Layout.{Slotted, record_entry}
use Rattle.spec_checkpoint.specs.Salvage.{placed}
use Rattle.spec_checkpoint.proofs.Part.{placed_entries, placed_kept}

-- a call's own numbers
abbrev pub is_tidy : Call → Bool
is_tidy c = valid_ids c && call_free_clear c

-- the table has a call made for the pair and both numbers of a record's request
abbrev pub request_in_use : Table → Slotted → Bool
request_in_use t r = has (same_request (record_entry r)) (entries t)

-- a record's own numbers, and its call beside those of the table
abbrev pub stands_beside : Table → Slotted → Bool
stands_beside t r =
    is_tidy r.call
    && is_listed (roster t) r.call.sender
    && not (request_in_use t r)
    && not (share_used_up (total_of t) (roster t) (entries t) r.call.sender)
    && (not (long_in_use (entries t) (ids_of r.call)) && not (short_in_use (entries t) (ids_of r.call)))

-- a call that the node did not make has no request to share
pub unmade_apart : (e : Entry) (l : List Entry) → e.made ≡ false → has (same_request e) l ≡ false
unfolding same_request
unmade_apart e l h = has_nothing (same_request e) l (λ x. rw h)

-- where its short ID is in use it does not
pub short_stands : (t : Table) (r : Slotted) → short_in_use (entries t) (ids_of r.call) ≡ true → stands_beside t r ≡ false
short_stands t r h =
    rw (
      h,
      and-false (not (long_in_use (entries t) (ids_of r.call))),
      and-false
          (is_tidy r.call
          && is_listed (roster t) r.call.sender
          && not (request_in_use t r)
          && not (share_used_up (total_of t) (roster t) (entries t) r.call.sender)),
    )

-- the share is not used up where a call may be opened
share_left : (t : Table) (e : Entry) → MayOpen (total_of t) (roster t) (entries t) e → share_used_up (total_of t) (roster t) (entries t) e.ids.sender ≡ false
unfolding ShareSays
share_left t e m = by (share_used_up (total_of t) (roster t) (entries t) e.ids.sender) (share_says _ _ _ _ _ refl)
  where
    by : (b : Bool) → ShareSays b (total_of t) (roster t) (entries t) e.ids.sender → b ≡ false
    by true (inl h) = absurd (m.under h)
    by true (inr h) = absurd (full m.share)
      where
        full : (calls_of (entries t) e.ids.sender < guarantee_of (roster t) e.ids.sender) ⊎ (S (roster t) (entries t) ≢ total_of t) → ⊥
        full (inl l) = omega (arith, h.0)
        full (inr n) = n h.1
    by false h = refl

module _ (t : Table) (r : Slotted) (long : slots ≤ length t.calls) (four : length t.occupied ≡ 4) (within : r.slot < total_of t) (was : is_used t.occupied r.slot ≡ false) (none : held_in (call_four r.call) ≡ []) (rules : rules_hold t ≡ true) where
  inside : r.slot < slots
  inside = omega (arith, total_most t.form)

  kept : Kept t
  kept = rules_kept t rules

  may : is_listed (roster t) r.call.sender ≡ true → request_in_use t r ≡ false → share_used_up (total_of t) (roster t) (entries t) r.call.sender ≡ false
      → long_in_use (entries t) (ids_of r.call) ≡ false → short_in_use (entries t) (ids_of r.call) ≡ false → MayOpen (total_of t) (roster t) (entries t) (record_entry r)
  unfolding ShareSays
  may known request share l s =
      let free = share_says (total_of t) (roster t) (entries t) r.call.sender false share in
      record {
        known = known;
        new_short = has_false _ (entries t) s;
        new_long = has_false _ (entries t) l;
        new_request = has_false _ (entries t) request;
        under = free.0;
        share = free.1;
      }

  -- where the tests pass
  passes : stands_beside t r ≡ true → rules_hold (placed t r) ≡ true
  passes h =
      let ids = both _ (not (long_in_use (entries t) (ids_of r.call)) && not (short_in_use (entries t) (ids_of r.call))) h in
      let share = both _ (not (share_used_up (total_of t) (roster t) (entries t) r.call.sender)) ids.0 in
      let request = both _ (not (request_in_use t r)) share.0 in
      let known = both (is_tidy r.call) (is_listed (roster t) r.call.sender) request.0 in
      let tidy = both (valid_ids r.call) (call_free_clear r.call) known.0 in
      let new = both (not (long_in_use (entries t) (ids_of r.call))) _ ids.1 in
      let m = may known.1 (not-true _ request.1) (not-true _ share.1) (not-true _ new.0) (not-true _ new.1) in
      kept_rules (placed t r)
      (placed_kept t r long four inside was none kept within
      (calls_open (total_of t) (roster t) (entries t) (record_entry r) kept.calls m (entries (placed t r)) (roster_kept t kept.accepted).apart (placed_entries t r long four inside was none))
      tidy.0 tidy.1)

  -- where the rules hold
  passed : rules_hold (placed t r) ≡ true → stands_beside t r ≡ true
  passed h =
      let k = rules_kept (placed t r) h in
      let m = calls_opened (total_of t) (roster t) (entries t) (entries (placed t r)) (record_entry r) (roster_kept t kept.accepted).apart (placed_entries t r long four inside was none) k.calls in
      let used = used_here t.occupied r.slot (omega (arith, inside)) in
      let here = call_here (raised t r.call.refreshed) (with_used t.occupied r.slot) r.slot r.call inside long in
      rw (
        rw here at (k.names r.slot inside used),
        rw (used, here) at (k.slots r.slot inside),
        m.known,
        false_has _ (entries t) m.new_request,
        share_left t (record_entry r) m,
        false_has _ (entries t) m.new_long,
        false_has _ (entries t) m.new_short,
      )

  pub stands_is : stands_beside t r ≡ rules_hold (placed t r)
  stands_is = alike _ _ passes passed
