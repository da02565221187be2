-- Each change keeps the agreement of table and ledger.
-- Assumes nothing.
use Prim.Native.Nat.{ℕ, ◌≤◌, ◌<◌}
use native.Mathlib.Omega.{arith}
use mathlib.Core.Path.{◌≡◌, refl, sym, ap, ◌∙◌}
use mathlib.Core.List.{List, ◌∷◌}
use mathlib.Core.Bool.{Bool, true, false}
use lib.Dec.{eqb, ltb}
use borrow.Author.Tests.{ltb-true, ltb-false}
use Rattle.lists.specs.Count.{count_if, has, without}
use Rattle.lists.proofs.Tests.{both}
use Rattle.lists.proofs.Search.{not_only}
use Rattle.lists.proofs.Count.{some_bit, count_le, without_same, count_gone}
use Rattle.objects.specs.declared.fields.MessageId.{MessageId}
use Rattle.table.specs.Table.{Table}
use Rattle.table.specs.Total.{slots, total_of}
use Rattle.table.specs.Word.{is_used, lowest_free}
use Rattle.table.specs.Lists.{roster, Ids, Entry, call_at, entry_of, entries, Lsp, Held, held}
use Rattle.table.specs.Share.{is_listed}
use Rattle.table.specs.Rules.{roster_holds, same_short, same_long, is_lsp, rules_hold}
use Rattle.table.proofs.Slots.{lowest_below, lowest_here}
use Rattle.table.proofs.Within.{total_most}
use Rattle.spec_changes.specs.Calls.{New, entry_for, opened, is_call, slot_of, closed, refreshed_at, identifier_taken}
use Rattle.spec_changes.specs.Connections.{added, removed, is_under}
use Rattle.spec_changes.specs.Expiry.{raised, closings_of, elapsed}
use Rattle.spec_changes.specs.Last.{last_kept}
use Rattle.spec_changes.proofs.Kept.{Kept, MayOpen, room_for}
use Rattle.spec_changes.proofs.Told.{roster_kept, rules_kept, kept_rules}
use Rattle.spec_changes.proofs.Opened.{slot_used, free_slot, opened_entries, opened_held, opened_shape, Fits, opened_kept}
use Rattle.spec_changes.proofs.Closed.{closed_slot, closed_entries, closed_shape, closed_kept}
use Rattle.spec_changes.proofs.Refreshed.{refreshed_entries, refreshed_shape, refreshed_kept}
use Rattle.spec_changes.proofs.Freed.{shape_sized}
use Rattle.spec_changes.proofs.Last.{listed_record, last_shape, last_entries, last_rules}
use Rattle.spec_changes.proofs.Expired.{elapsed_shape, elapsed_entries, elapsed_kept}
use Rattle.spec_changes.proofs.Added.{MayAdd, added_entries, added_shape, added_kept}
use Rattle.spec_changes.proofs.Removed.{removed_entries, removed_shape, removed_kept}
use Rattle.spec_promises.specs.Ledger.{lowest_slot, is_closed, dropped}
use Rattle.spec_promises.specs.Promises.{Agrees}

-- ---- the ledger's lowest slot is the words'

abbrev in_slot : ℕ → Entry → Bool
in_slot j e = eqb j e.slot

-- the words have bits for more slots than the total, and none of those is used: where every slot below it is, both are the
-- total
lowest_is : (t : Table) (l : List Entry) → Kept t → ((p : Entry → Bool) → count_if p (entries t) ≡ count_if p l) → lowest_slot l (total_of t) ≡ lowest_free t.occupied
lowest_is t l k h =
    not_only (λ j. has (in_slot j) l) (total_of t) 0 (lowest_free t.occupied) (omega arith) (omega (arith, most))
    (λ j a b. says j (omega (arith, most, total_most t.form)) ∙ lowest_below t.occupied j b)
    (λ b. says (lowest_free t.occupied) (omega (arith, total_most t.form)) ∙ lowest_here t.occupied (omega (arith, total_most t.form)))
  where
    says : (j : ℕ) → j < slots → has (in_slot j) l ≡ is_used t.occupied j
    says j a = ap (ltb 0) (sym (h (in_slot j)) ∙ slot_used t j a) ∙ some_bit (is_used t.occupied j)

    most : lowest_free t.occupied ≤ total_of t
    most = by (ltb (total_of t) (lowest_free t.occupied)) refl
      where
        by : (b : Bool) → ltb (total_of t) (lowest_free t.occupied) ≡ b → lowest_free t.occupied ≤ total_of t
        by true e =
            let u = lowest_below t.occupied (total_of t) (ltb-true _ _ e) in
            let z : ⊥ = omega (arith, k.within (total_of t) (omega (arith, total_most t.form)) u) in
            absurd z
        by false e = ltb-false _ _ e

-- ---- the next own identifier is nobody's concern

next_rules : (t : Table) → rules_hold (identifier_taken t) ≡ rules_hold t
unfolding rules_hold roster_holds
next_rules t = refl

pub next_agrees : (t : Table) (l : List Entry) → Agrees t l → Agrees (identifier_taken t) l
next_agrees t l g = record {
  shape = record { calls = g.shape.calls; customers = g.shape.customers; words = g.shape.words; places = g.shape.places; endpoints = g.shape.endpoints; standalone_places = g.shape.standalone_places };
  rules = next_rules t ∙ g.rules;
  calls = g.calls;
}

-- the same call has the same short ID
call_short : (c : Ids) (e : Entry) → is_call c e ≡ true → same_short c e.ids ≡ true
call_short c e h = (both (same_short c e.ids) (same_long c e.ids) h).0

module _ (t : Table) (l : List Entry) (g : Agrees t l) where
  kept : Kept t
  kept = rules_kept t g.rules

  -- ---- opening and closing

  -- what may be opened finds a free slot below the total
  free : (e : Entry) → MayOpen (total_of t) (roster t) (entries t) e → lowest_free t.occupied < total_of t
  free e m = free_slot t kept (room_for (total_of t) (roster t) (entries t) e kept.calls m)

  abbrev Allowed : New → Type 0
  Allowed c = MayOpen (total_of t) (roster t) (entries t) (entry_for (lowest_free t.occupied) c)

  pub open_agrees : (c : New) → Allowed c → Fits c → Agrees (opened t c) (entry_for (lowest_slot l (total_of t)) c ∷ l)
  open_agrees c m f = record {
    shape = opened_shape t c g.shape (free _ m);
    rules = kept_rules (opened t c) (opened_kept t c g.shape kept m (roster_kept t kept.accepted).apart f);
    calls = λ p. opened_entries t c g.shape (free _ m) p ∙ rw (lowest_is t l kept g.calls, g.calls p);
  }

  pub open_held : (c : New) → Allowed c → (p : Held → Bool) → count_if p (held (opened t c)) ≡ count_if p (held t)
  open_held c m p = opened_held t c g.shape (free _ m) p

  pub close_agrees : (c : Ids) → 0 < count_if (is_call c) (entries t) → count_if (is_under c) (held t) ≡ 0 → Agrees (closed t c) (without (is_call c) l)
  close_agrees c h idle = record {
    shape = closed_shape t c g.shape h;
    rules = kept_rules (closed t c) (closed_kept t c g.shape h idle kept);
    calls = λ p. gone p ∙ without_same (is_call c) (entries t) l g.calls p;
  }
    where
      once : count_if (is_call c) (entries t) ≤ 1
      once = omega (arith, count_le (is_call c) (λ e. same_short c e.ids) (entries t) (call_short c), kept.calls.shorts c)

      gone : (p : Entry → Bool) → count_if p (entries (closed t c)) ≡ count_if p (without (is_call c) (entries t))
      gone =
          count_gone (is_call c) (entries t) (entries (closed t c)) (entry_of (slot_of t (is_call c)) (call_at t (slot_of t (is_call c))))
          (closed_slot t c g.shape h).2 once (closed_entries t c g.shape h)

  -- ---- a refresh, and the closings before a message (02, A7)

  pub refresh_agrees : (i : ℕ) → i < slots → is_used t.occupied i ≡ true → Agrees (refreshed_at t i) l
  refresh_agrees i inside used = record {
    shape = refreshed_shape t i inside g.shape;
    rules = kept_rules (refreshed_at t i) (refreshed_kept t i inside g.shape used kept);
    calls = λ p. ap (count_if p) (refreshed_entries t i inside g.shape) ∙ g.calls p;
  }

  pub elapsed_agrees : (time period : ℕ) → Agrees (elapsed t time period) (dropped (closings_of (raised t time) period) l)
  elapsed_agrees time period = record {
    shape = elapsed_shape t time period g.shape;
    rules = kept_rules (elapsed t time period) (elapsed_kept t time period (shape_sized t g.shape) kept);
    calls = λ p. ap (count_if p) (elapsed_entries t time period (shape_sized t g.shape)) ∙ without_same (is_closed (closings_of (raised t time) period)) (entries t) l g.calls p;
  }

  -- ---- a last MESSAGE_ID is kept (02, A8)

  pub last_agrees : (sender : ℕ) (id : MessageId) → is_listed (roster t) sender ≡ true → id.epoch < 0x1000000 → Agrees (last_kept t sender id) l
  last_agrees sender id known fits = record {
    shape = last_shape t sender id g.shape;
    rules = kept_rules (last_kept t sender id) (last_rules t sender id (listed_record t sender known) g.shape fits kept);
    calls = λ p. ap (count_if p) (last_entries t sender id) ∙ g.calls p;
  }

  -- ---- connections come and go

  pub add_agrees : (x : Held) → MayAdd t x → Agrees (added t x) l
  add_agrees x m = record {
    shape = added_shape t x g.shape m;
    rules = kept_rules (added t x) (added_kept t x g.shape m kept);
    calls = λ p. added_entries t x g.shape m p ∙ g.calls p;
  }

  pub remove_agrees : (x : Lsp) → 0 < count_if (is_lsp x) (held t) → Agrees (removed t x) l
  remove_agrees x h = record {
    shape = removed_shape t x g.shape h;
    rules = kept_rules (removed t x) (removed_kept t x g.shape h kept);
    calls = λ p. removed_entries t x g.shape h p ∙ g.calls p;
  }
