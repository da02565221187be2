-- The last MESSAGE_ID of a customer (02, A8): what keeping it leaves alone, what is then kept, and that no other change
-- touches it.
-- Assumes nothing.
use Prim.Native.Nat.{ℕ, zero, suc, ◌<◌}
use native.Mathlib.Omega.{arith}
use mathlib.Core.Path.{◌≡◌, refl, sym, ap, ◌∙◌, fun_ext}
use mathlib.Core.Logic.{◌≢◌}
use mathlib.Core.List.{List, [], ◌∷◌, ◌++◌, map}
use mathlib.Core.Bool.{true, cond, ◌&&◌}
use lib.Dec.{ltb}
use lib.ListN.{length, get_or, set, length-set}
use lib.Seq.{get_or-set_same, get_or-set_other}
use borrow.Author.Tests.{eqb-true, lt-ltb}
use Rattle.lists.specs.Below.{element_if, list_if, below, place_of}
use Rattle.lists.proofs.Tests.{both}
use Rattle.lists.proofs.Count.{has_true}
use Rattle.lists.proofs.Below.{has_element}
use Rattle.lists.proofs.Search.{place_found}
use Rattle.objects.specs.declared.fields.MessageId.{MessageId}
use Rattle.table.specs.Table.{Place, Customer, Table}
use Rattle.table.specs.Total.{slots}
use Rattle.table.specs.Zeros.{past_customer}
use Rattle.table.specs.Lists.{customer_at, terms_of, listed_at, roster, entries, Held, Lsp, customer_four, held_in, held_at, held}
use Rattle.table.specs.Share.{is_at, is_listed}
use Rattle.table.specs.Rules.{roster_holds, four_valid, kept_tidy, customer_free_clear, customer_clear}
use Rattle.table.specs.Stores.{with_customer, with_standalone_place, with_last}
use Rattle.spec_changes.specs.Shape.{Shape}
use Rattle.spec_changes.specs.Calls.{New, opened, freed, refreshed_at}
use Rattle.spec_changes.specs.Connections.{customer_of, added, removed}
use Rattle.spec_changes.specs.Last.{last, kept_in, last_of, last_kept}
use Rattle.spec_changes.proofs.Kept.{Kept}
use Rattle.spec_changes.proofs.Places.{set_holds}
use Rattle.spec_changes.proofs.Tables.{added_same, removed_same}

-- what is the same of the element put in and of the one it replaces, is the same everywhere in the list
pub set_same {ℓ} : {A : Type 0} {B : Type ℓ} (f : A → B) (l : List A) (k i : ℕ) (q d : A) → f q ≡ f (get_or l k d) → f (get_or (set l k q) i d) ≡ f (get_or l i d)
set_same f [] k i q d h = refl
set_same f (x ∷ l) zero zero q d h = h
set_same f (x ∷ l) zero (suc i) q d h = refl
set_same f (x ∷ l) (suc k) zero q d h = refl
set_same f (x ∷ l) (suc k) (suc i) q d h = set_same f l k i q d h

pub map_set_same {ℓ} : {A : Type 0} {B : Type ℓ} (f : A → B) (l : List A) (k : ℕ) (q d : A) → f q ≡ f (get_or l k d) → map f (set l k q) ≡ map f l
map_set_same f [] k q d h = refl
map_set_same f (x ∷ l) zero q d h = ap (λ y. y ∷ map f l) h
map_set_same f (x ∷ l) (suc k) q d h = ap (λ m. f x ∷ m) (map_set_same f l k q d h)

-- ---- a customer with the same terms

module _ (t : Table) (k : ℕ) (c : Customer) (same : terms_of c ≡ terms_of (customer_at t k)) where
  listed_same : (i : ℕ) → listed_at (with_customer t k c) i ≡ listed_at t i
  listed_same i = ap (λ x. element_if (ltb i t.listed) x) (set_same terms_of t.customers k i c past_customer same)

  roster_same : roster (with_customer t k c) ≡ roster t
  roster_same = ap (λ f. below f 8) (fun_ext listed_same)

  customer_of_same : (sender : ℕ) → customer_of (with_customer t k c) sender ≡ customer_of t sender
  customer_of_same sender = ap (λ f. place_of f (is_at sender) 8) (fun_ext listed_same)

-- ---- the record of a listed sender

pub record Listed (t : Table) (sender : ℕ) : Type 0 where
  pub inside : customer_of t sender < 8
  pub known : ltb (customer_of t sender) t.listed ≡ true
  pub own : sender ≡ (customer_at t (customer_of t sender)).address

pub listed_record : (t : Table) (sender : ℕ) → is_listed (roster t) sender ≡ true → Listed t sender
listed_record t sender h =
    let k = customer_of t sender in
    let f = place_found (listed_at t) (is_at sender) 8 (has_true _ (roster t) h) in
    let b = both (ltb k t.listed) (is_at sender (terms_of (customer_at t k))) (sym (has_element _ (ltb k t.listed) (terms_of (customer_at t k))) ∙ f.passes) in
    record { inside = f.inside; known = b.0; own = eqb-true _ _ b.1 }

-- ---- what keeping one leaves alone

module _ (t : Table) (sender : ℕ) (id : MessageId) where
  abbrev k : ℕ
  k = customer_of t sender

  abbrev new : Customer
  new = with_last (customer_at t k) id

  pub last_form : (last_kept t sender id).form ≡ t.form
  unfolding last_kept
  last_form = refl

  pub last_time : (last_kept t sender id).time ≡ t.time
  unfolding last_kept
  last_time = refl

  pub last_occupied : (last_kept t sender id).occupied ≡ t.occupied
  unfolding last_kept
  last_occupied = refl

  pub last_calls : (last_kept t sender id).calls ≡ t.calls
  unfolding last_kept
  last_calls = refl

  pub last_entries : entries (last_kept t sender id) ≡ entries t
  unfolding last_kept
  last_entries = refl

  pub last_roster : roster (last_kept t sender id) ≡ roster t
  unfolding last_kept
  last_roster = roster_same t k new refl

  -- whatever does not look at the three fields
  pub last_customers {ℓ} : {B : Type ℓ} (f : Customer → B) → ((c : Customer) → f (with_last c id) ≡ f c) → map f (last_kept t sender id).customers ≡ map f t.customers
  unfolding last_kept
  last_customers f h = map_set_same f t.customers k new past_customer (h (customer_at t k))

  pub last_held : held (last_kept t sender id) ≡ held t
  unfolding last_kept
  last_held =
      ap (λ f. below (held_at t) slots ++ below f 8)
      (fun_ext (λ i. ap (λ (l : List Held). list_if (ltb i t.listed) l) (set_same (λ c. held_in (customer_four c)) t.customers k i new past_customer refl)))

  pub last_shape : Shape t → Shape (last_kept t sender id)
  unfolding last_kept
  last_shape s = record {
    calls = s.calls;
    customers = length-set t.customers k new ∙ s.customers;
    words = s.words;
    places = s.places;
    endpoints = λ i h. set_same (λ c. length c.endpoints) t.customers k i new past_customer refl ∙ s.endpoints i h;
    standalone_places = λ i h. set_same (λ c. length c.places) t.customers k i new past_customer refl ∙ s.standalone_places i h;
  }

  -- an epoch of 24 bits
  last_clear : id.epoch < 0x1000000 → customer_free_clear (customer_at t k) ≡ true → customer_free_clear new ≡ true
  unfolding customer_free_clear
  last_clear fits old =
      let c = customer_at t k in
      let b = both (kept_tidy c && four_valid (customer_four c)) _ old in
      let v = both (kept_tidy c) (four_valid (customer_four c)) b.0 in
      rw (lt-ltb id.epoch 0x1000000 fits, v.1) b.1

  pub last_rules : Listed t sender → Shape t → id.epoch < 0x1000000 → Kept t → Kept (last_kept t sender id)
  unfolding last_kept roster_holds
  last_rules l s fits i = record {
    accepted = rw (roster_same t k new refl) i.accepted;
    within = i.within;
    calls = rw (roster_same t k new refl) i.calls;
    once = λ x. rw held_is (i.once x);
    names = i.names;
    refreshes = i.refreshes;
    slots = i.slots;
    records = λ n h. set_holds (λ x. cond (ltb n t.listed) (customer_free_clear x) (customer_clear x) ≡ true) t.customers k n new past_customer (omega (arith, s.customers))
        (λ (e : n ≡ k). rw (e, l.known) (last_clear fits (rw l.known at (i.records k l.inside)))) (i.records n h);
  }
    where
      held_is : held (with_customer t k new) ≡ held t
      held_is = last_held

  -- ---- what is kept then

  pub last_here : Listed t sender → Shape t → last_of (last_kept t sender id) sender ≡ last id
  unfolding last_kept
  last_here l s = rw (customer_of_same t k new refl sender, get_or-set_same t.customers k new past_customer (omega (arith, s.customers, l.inside)))

  pub last_other : (other : ℕ) → Listed t sender → Listed t other → other ≢ sender → last_of (last_kept t sender id) other ≡ last_of t other
  unfolding last_kept
  last_other other l m n =
      rw (customer_of_same t k new refl other)
      (ap kept_in (get_or-set_other t.customers k (customer_of t other) new past_customer
      (λ (e : customer_of t other ≡ k). n (m.own ∙ ap (λ (i : ℕ). (customer_at t i).address) e ∙ sym l.own))))

-- ---- no other change touches it

-- which record is a sender's
module _ (sender : ℕ) where
  pub record_opened : (t : Table) (c : New) → customer_of (opened t c) sender ≡ customer_of t sender
  unfolding opened
  record_opened t c = refl

  pub record_freed : (t : Table) (i : ℕ) → customer_of (freed t i) sender ≡ customer_of t sender
  unfolding freed
  record_freed t i = refl

  pub record_refreshed : (t : Table) (i : ℕ) → customer_of (refreshed_at t i) sender ≡ customer_of t sender
  unfolding refreshed_at
  record_refreshed t i = refl

  pub record_added : (t : Table) (x : Held) → customer_of (added t x) sender ≡ customer_of t sender
  record_added = added_same (λ (t : Table). customer_of t sender) (λ t i c. refl) (λ t k j e p. customer_of_same t k (with_standalone_place (customer_at t k) j e p) refl sender)

  pub record_removed : (t : Table) (x : Lsp) → customer_of (removed t x) sender ≡ customer_of t sender
  record_removed = removed_same (λ (t : Table). customer_of t sender) (λ t i c. refl) (λ t k j e p. customer_of_same t k (with_standalone_place (customer_at t k) j e p) refl sender)

-- and what it keeps
module _ (sender : ℕ) where
  pub last_opened : (t : Table) (c : New) → last_of (opened t c) sender ≡ last_of t sender
  unfolding opened
  last_opened t c = refl

  pub last_freed : (t : Table) (i : ℕ) → last_of (freed t i) sender ≡ last_of t sender
  unfolding freed
  last_freed t i = refl

  pub last_refreshed : (t : Table) (i : ℕ) → last_of (refreshed_at t i) sender ≡ last_of t sender
  unfolding refreshed_at
  last_refreshed t i = refl

  place_same : (t : Table) (k j e : ℕ) (p : Place) → last_of (with_customer t k (with_standalone_place (customer_at t k) j e p)) sender ≡ last_of t sender
  place_same t k j e p =
      let c = with_standalone_place (customer_at t k) j e p in
      rw (customer_of_same t k c refl sender) (set_same kept_in t.customers k (customer_of t sender) c past_customer refl)

  pub last_added : (t : Table) (x : Held) → last_of (added t x) sender ≡ last_of t sender
  last_added = added_same (λ (t : Table). last_of t sender) (λ t i c. refl) place_same

  pub last_removed : (t : Table) (x : Lsp) → last_of (removed t x) sender ≡ last_of t sender
  last_removed = removed_same (λ (t : Table). last_of t sender) (λ t i c. refl) place_same
