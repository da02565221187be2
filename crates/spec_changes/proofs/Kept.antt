-- The table rules as bounds on counts: what every change keeps.
-- Assumes nothing.
use Prim.Native.Nat.{ℕ, ◌+◌, ◌≤◌, ◌<◌}
use native.Mathlib.Omega.{arith}
use mathlib.Core.Path.{◌≡◌, refl, sym, ap, ◌∙◌}
use mathlib.Core.Logic.{◌⊎◌, inl, inr, ◌≢◌}
use mathlib.Core.List.{List, ◌∷◌}
use mathlib.Core.Bool.{Bool, true, false, not}
use lib.Dec.{ltb, eqb}
use lib.ListN.{length}
use borrow.Author.Tests.{eqb-true, ltb-true, ltb-false}
use Rattle.lists.specs.Count.{bit, count_if}
use Rattle.lists.proofs.Count.{has_true, has_false, has_nothing, count_ext}
use Rattle.table.specs.Table.{Table}
use Rattle.table.specs.Total.{slots, total_of}
use Rattle.table.specs.Word.{bits, is_used}
use Rattle.table.specs.Lists.{Terms, roster, Ids, Entry, call_at, entries, Held, held}
use Rattle.table.specs.Share.{is_at, is_listed, guarantee_of, limit_of, from, calls_of, S}
use Rattle.table.specs.Rules.{bad_share, guarantees, roster_holds, unlisted, same_short, same_long, same_request, valid_ids, same_connection, slot_free_clear, record_free_clear}
use Rattle.spec_changes.proofs.Alike.{self, short_self, long_self, request_self, short_alike, long_alike, request_alike}
use Rattle.spec_changes.proofs.Share.{S-mono, S-same, S-open, calls_within, calls_below}

-- an acceptable roster
pub record RosterKept (total : ℕ) (r : List Terms) : Type 0 where
  pub shares : count_if (bad_share total) r ≡ 0
  pub apart : (a : ℕ) → count_if (is_at a) r ≤ 1
  pub sum : guarantees r ≤ total

-- the rules on the open calls
pub record CallsKept (total : ℕ) (r : List Terms) (l : List Entry) : Type 0 where
  pub senders : count_if (unlisted r) l ≡ 0
  pub limits : (a : ℕ) → is_listed r a ≡ true → calls_of l a ≤ limit_of r a
  pub room : S r l ≤ total
  pub shorts : (c : Ids) → count_if (λ e. same_short c e.ids) l ≤ 1
  pub longs : (c : Ids) → count_if (λ e. same_long c e.ids) l ≤ 1
  pub requests : (e : Entry) → count_if (same_request e) l ≤ 1

-- all rules on a table
pub record Kept (t : Table) : Type 0 where
  pub accepted : roster_holds t ≡ true
  pub within : (i : ℕ) → i < bits → is_used t.occupied i ≡ true → i < total_of t
  pub calls : CallsKept (total_of t) (roster t) (entries t)
  pub once : (x : Held) → count_if (same_connection x) (held t) ≤ 1
  pub names : (i : ℕ) → i < slots → is_used t.occupied i ≡ true → valid_ids (call_at t i) ≡ true
  pub refreshes : (i : ℕ) → i < slots → is_used t.occupied i ≡ true → (call_at t i).refreshed ≤ t.time
  pub slots : (i : ℕ) → i < slots → slot_free_clear t i ≡ true
  pub records : (k : ℕ) → k < 8 → record_free_clear t k ≡ true

-- fewer calls keep the rules, and so do the same calls in another order
pub calls_fewer : (total : ℕ) (r : List Terms) (l k : List Entry) → ((p : Entry → Bool) → count_if p l ≤ count_if p k) → CallsKept total r k → CallsKept total r l
calls_fewer total r l k f i = record {
  senders = omega (arith, f (unlisted r), i.senders);
  limits = λ a h. omega (arith, f (from a), i.limits a h);
  room = omega (arith, S-mono r l k f, i.room);
  shorts = λ c. omega (arith, f (λ e. same_short c e.ids), i.shorts c);
  longs = λ c. omega (arith, f (λ e. same_long c e.ids), i.longs c);
  requests = λ e. omega (arith, f (same_request e), i.requests e);
}

-- what an opening needs
pub record MayOpen (total : ℕ) (r : List Terms) (l : List Entry) (e : Entry) : Type 0 where
  pub known : is_listed r e.ids.sender ≡ true
  pub new_short : count_if (λ f. same_short e.ids f.ids) l ≡ 0
  pub new_long : count_if (λ f. same_long e.ids f.ids) l ≡ 0
  pub new_request : count_if (same_request e) l ≡ 0
  pub under : calls_of l e.ids.sender ≢ limit_of r e.ids.sender
  pub share : (calls_of l e.ids.sender < guarantee_of r e.ids.sender) ⊎ (S r l ≢ total)

-- ---- one call more: k is l with e

module _ (total : ℕ) (r : List Terms) (l : List Entry) (e : Entry) (i : CallsKept total r l) (m : MayOpen total r l e) where
  abbrev sender : ℕ
  sender = e.ids.sender

  -- S leaves room for one more
  pub room_for : length l < total
  room_for = by m.share
    where
      by : (calls_of l sender < guarantee_of r sender) ⊎ (S r l ≢ total) → length l < total
      by (inl h) = omega (arith, calls_below r l sender i.senders h, i.room)
      by (inr h) = omega (arith, calls_within r l i.senders, i.room)

  open_limits : (a : ℕ) → is_listed r a ≡ true → bit (eqb sender a) + calls_of l a ≤ limit_of r a
  open_limits a h = by (eqb sender a) refl
    where
      by : (b : Bool) → eqb sender a ≡ b → bit b + calls_of l a ≤ limit_of r a
      by true q =
          let same : sender ≡ a = eqb-true _ _ q in
          let u : calls_of l a ≢ limit_of r a = rw same at m.under in
          omega (arith, i.limits a h)
      by false q = omega (arith, i.limits a h)

  open_room : ((a : ℕ) → count_if (is_at a) r ≤ 1) → S r (e ∷ l) ≤ total
  open_room d = by m.share
    where
      by : (calls_of l sender < guarantee_of r sender) ⊎ (S r l ≢ total) → S r (e ∷ l) ≤ total
      by (inl h) = omega (arith, (S-open r l e d (has_true _ r m.known)).1 h, i.room)
      by (inr h) = omega (arith, (S-open r l e d (has_true _ r m.known)).0, i.room)

  -- a test that is another's where it meets the new call
  open_once : (p q : Entry → Bool) → count_if q l ≡ 0 → count_if p l ≤ 1 → (p e ≡ true → (x : Entry) → p x ≡ q x) → bit (p e) + count_if p l ≤ 1
  open_once p q h k f = by (p e) f
    where
      by : (b : Bool) → (b ≡ true → (x : Entry) → p x ≡ q x) → bit b + count_if p l ≤ 1
      by true f = omega (arith, count_ext p q l (f refl))
      by false f = omega arith

  pub calls_open : (k : List Entry) → ((a : ℕ) → count_if (is_at a) r ≤ 1) → ((p : Entry → Bool) → count_if p k ≡ bit (p e) + count_if p l) → CallsKept total r k
  calls_open k d f = record {
    senders = rw (f (unlisted r), m.known) (omega (arith, i.senders));
    limits = λ a h. rw (f (from a)) (open_limits a h);
    room = omega (arith, open_room d, S-same r k (e ∷ l) f);
    shorts = λ b. rw (f (λ x. same_short b x.ids))
        (open_once (λ x. same_short b x.ids) (λ x. same_short e.ids x.ids) m.new_short (i.shorts b) (λ h x. short_alike b e.ids x.ids h));
    longs = λ b. rw (f (λ x. same_long b x.ids))
        (open_once (λ x. same_long b x.ids) (λ x. same_long e.ids x.ids) m.new_long (i.longs b) (λ h x. long_alike b e.ids x.ids h));
    requests = λ b. rw (f (same_request b)) (open_once (same_request b) (same_request e) m.new_request (i.requests b) (λ h x. request_alike b e x h));
  }

-- and what it needs, it must have: where the rules hold with the call, it might be opened
module _ (total : ℕ) (r : List Terms) (l k : List Entry) (e : Entry) (d : (a : ℕ) → count_if (is_at a) r ≤ 1)
    (f : (p : Entry → Bool) → count_if p k ≡ bit (p e) + count_if p l) (i : CallsKept total r k) where
  opened_known : is_listed r e.ids.sender ≡ true
  opened_known = by (is_listed r e.ids.sender) (omega (arith, f (unlisted r), i.senders))
    where
      by : (b : Bool) → bit (not b) + count_if (unlisted r) l ≡ 0 → b ≡ true
      by true h = refl
      by false h = let z : ⊥ = omega arith in absurd z

  -- a test that the call passes
  opened_new : (p : Entry → Bool) → p e ≡ true → count_if p k ≤ 1 → count_if p l ≡ 0
  opened_new p h n = omega (arith, f p, ap bit h)

  -- a call's request is its own, where it has one
  opened_request : count_if (same_request e) l ≡ 0
  opened_request = by (same_request e e) refl
    where
      other : same_request e e ≡ false → (x : Entry) (s : Bool) → same_request e x ≡ s → s ≡ false
      other h x true q = sym (request_self e x q) ∙ h
      other h x false q = refl

      by : (s : Bool) → same_request e e ≡ s → count_if (same_request e) l ≡ 0
      by true h = opened_new (same_request e) h (i.requests e)
      by false h = has_false (same_request e) l (has_nothing (same_request e) l (λ x. other h x (same_request e x) refl))

  opened_share : (calls_of l e.ids.sender < guarantee_of r e.ids.sender) ⊎ (S r l ≢ total)
  opened_share = by (ltb (calls_of l e.ids.sender) (guarantee_of r e.ids.sender)) refl
    where
      by : (b : Bool) → ltb (calls_of l e.ids.sender) (guarantee_of r e.ids.sender) ≡ b
          → (calls_of l e.ids.sender < guarantee_of r e.ids.sender) ⊎ (S r l ≢ total)
      by true h = inl (ltb-true _ _ h)
      by false h = inr (λ q. omega (arith, (S-open r l e d (has_true _ r opened_known)).2 (ltb-false _ _ h), S-same r k (e ∷ l) f, i.room))

  pub calls_opened : MayOpen total r l e
  calls_opened = record {
    known = opened_known;
    new_short = opened_new _ (short_self e.ids) (i.shorts e.ids);
    new_long = opened_new _ (long_self e.ids) (i.longs e.ids);
    new_request = opened_request;
    under = λ q. omega (arith, f (from e.ids.sender), ap bit (self e.ids.sender), i.limits e.ids.sender opened_known);
    share = opened_share;
  }
