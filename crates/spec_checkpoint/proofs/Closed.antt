-- Places close up where each connection takes the lowest free one.
-- Assumes nothing.
use Prim.Native.Nat.{ℕ, zero, suc, ◌<◌}
use native.Mathlib.Omega.{arith}
use mathlib.Core.Path.{◌≡◌, refl, sym, ap, ◌∙◌}
use mathlib.Core.List.{List}
use mathlib.Core.Bool.{Bool, true, false, cond, not}
use lib.Dec.{ltb, eqb}
use lib.ListN.{length, get_or, set, replicate, get_or-replicate}
use lib.Seq.{get_or-set_same, get_or-set_other}
use borrow.Author.Tests.{eqb-true, eqb-false}
use Rattle.lists.specs.Below.{below, first_below}
use Rattle.lists.proofs.Count.{has_true}
use Rattle.lists.proofs.Below.{get_d_each}
use Rattle.lists.proofs.Search.{place_found, first_least}
use Rattle.table.specs.Table.{Place, Call, Customer, Table}
use Rattle.table.specs.Total.{slots}
use Rattle.table.specs.Word.{with_used}
use Rattle.table.specs.Zeros.{no_place, no_call, no_customer, past_call, past_customer}
use Rattle.table.specs.Lists.{customer_at, listed_at, roster, call_at, Held, call_four, customer_four, is_taken}
use Rattle.table.specs.Share.{is_at}
use Rattle.table.specs.Roster.{customers_in, customer_in, customers_from, fresh_table}
use Rattle.table.specs.Stores.{with_slot, with_customer, with_place, with_standalone_place}
use Rattle.spec_changes.specs.Shape.{Shape}
use Rattle.spec_changes.specs.Calls.{slot_of}
use Rattle.spec_changes.specs.Connections.{place_for, free_place, is_call_of, added_under, added_standalone, customer_of, added}
use Rattle.spec_changes.specs.Expiry.{raised}
use Rattle.spec_changes.proofs.Slot.{found_slot, call_here, call_other}
use Rattle.spec_changes.proofs.Expired.{raised_shape}
use Rattle.spec_changes.proofs.Added.{MayAdd}
use Rattle.spec_checkpoint.specs.Layout.{Slotted}
use Rattle.spec_checkpoint.specs.Places.{InOrder, ClosedUp}
use Rattle.spec_checkpoint.specs.Salvage.{placed}

-- ---- four places in a list

abbrev row : List Place → ℕ → Bool
row l j = is_taken (get_or l j no_place)

-- the lowest free place is taken next
order_set : (l : List Place) (y : Place) → length l ≡ 4 → is_taken y ≡ true → first_below (λ j. not (row l j)) 4 < 4 → InOrder (row l)
    → InOrder (row (set l (first_below (λ j. not (row l j)) 4) y))
order_set l y w t inside o j h e = by (eqb j k) refl (eqb (suc j) k) refl
  where
    k : ℕ
    k = first_below (λ j. not (row l j)) 4

    other : (i : ℕ) → eqb i k ≡ false → row (set l k y) i ≡ row l i
    other i q = ap is_taken (get_or-set_other l k i y no_place (eqb-false i k q))

    held : (b : Bool) → not b ≡ false → b ≡ true
    held true q = refl
    held false q = cc

    by : (a : Bool) → eqb j k ≡ a → (b : Bool) → eqb (suc j) k ≡ b → row (set l k y) j ≡ true
    by true p b q = rw (eqb-true j k p) (ap is_taken (get_or-set_same l k y no_place (omega arith)) ∙ t)
    by false p true q = other j p ∙ held (row l j) (first_least (λ j. not (row l j)) 4 j (let z = eqb-true (suc j) k q in omega arith))
    by false p false q = other j p ∙ o j h (sym (other (suc j) q) ∙ e)

-- ---- the table

first_of_four : (p : ℕ → Bool) → first_below p 4 < 4
unfolding first_below below
first_of_four p = by (p 0) (p 1) (p 2) (p 3)
  where
    by : (a b c d : Bool) → cond a 0 (cond b 1 (cond c 2 (cond d 3 0))) < 4
    by true b c d = omega arith
    by false true c d = omega arith
    by false false true d = omega arith
    by false false false true = omega arith
    by false false false false = omega arith

-- another call in one slot
module _ (t : Table) (words : List ℕ) (i : ℕ) (c : Call) (inside : i < slots) (s : Shape t) where
  closed_slot : InOrder (row c.places) → ClosedUp t → ClosedUp (with_slot t words i c)
  closed_slot new o = record { under = λ m l. by m l (eqb m i) refl; standalone = o.standalone }
    where
      by : (m : ℕ) → m < slots → (b : Bool) → eqb m i ≡ b → InOrder (row (call_at (with_slot t words i c) m).places)
      by m l true e = rw (eqb-true m i e, call_here t words i c inside s.calls) new
      by m l false e = rw (call_other t words i c inside s.calls m (eqb-false m i e)) (o.under m l)

-- another record of one customer
module _ (t : Table) (k : ℕ) (c : Customer) (inside : k < 8) (s : Shape t) where
  closed_customer : InOrder (row c.places) → ClosedUp t → ClosedUp (with_customer t k c)
  closed_customer new o = record { under = o.under; standalone = λ m l. by m l (eqb m k) refl }
    where
      by : (m : ℕ) → m < 8 → (b : Bool) → eqb m k ≡ b → InOrder (row (customer_at (with_customer t k c) m).places)
      by m l true e = rw (eqb-true m k e, get_or-set_same t.customers k c past_customer (omega (arith, s.customers))) new
      by m l false e = rw (get_or-set_other t.customers k m c past_customer (eqb-false m k e)) (o.standalone m l)

alike {ℓ} : {P : Type ℓ} (d : P) (j : ℕ) → get_or (replicate 4 d) j d ≡ d
alike d zero = refl
alike d (suc zero) = refl
alike d (suc (suc zero)) = refl
alike d (suc (suc (suc zero))) = refl
alike d (suc (suc (suc (suc j)))) = refl

not_taken : false ≡ true → ⊥
not_taken e = let z : ◌≡◌ {A = ℕ} 0 1 = cc in omega arith

pub closed_placed : (t : Table) (r : Slotted) → Shape t → r.slot < slots → r.call.places ≡ replicate 4 no_place → ClosedUp t → ClosedUp (placed t r)
closed_placed t r s inside p o =
    let time = r.call.refreshed in
    closed_slot (raised t time) (with_used t.occupied r.slot) r.slot r.call inside (raised_shape t time s) (λ j h e. absurd (not_taken (rw (p, alike no_place (suc j)) at e)))
    (record { under = o.under; standalone = o.standalone })

pub closed_added : (t : Table) (x : Held) → Shape t → MayAdd t x → ClosedUp t → ClosedUp (added t x)
unfolding added added_under added_standalone
closed_added t x s m o = by (eqb x.call 0) refl
  where
    by : (b : Bool) → eqb x.call 0 ≡ b
        → ClosedUp (cond b (added_standalone t (customer_of t x.lsp.sender) x.lsp) (added_under t (slot_of t (is_call_of x)) x.lsp))
    by true e =
        let k = customer_of t x.lsp.sender in
        let f = place_found (listed_at t) (is_at x.lsp.sender) 8 (has_true _ (roster t) m.known) in
        let c = customer_at t k in
        closed_customer t k (with_standalone_place c (free_place (customer_four c)) x.lsp.endpoint (place_for x.lsp)) f.inside s
        (order_set c.places (place_for x.lsp) (s.standalone_places k f.inside) refl (first_of_four _) (o.standalone k f.inside)) o
    by false e =
        let i = slot_of t (is_call_of x) in
        let f = found_slot t (is_call_of x) (m.call (eqb-false _ _ e)) in
        let c = call_at t i in
        closed_slot t t.occupied i (with_place c (free_place (call_four c)) (place_for x.lsp)) f.0 s
        (order_set c.places (place_for x.lsp) (s.places i f.0) refl (first_of_four _) (o.under i f.0)) o

-- the fresh table: no place is taken
fresh_standalone : (s : List ℕ) (k : ℕ) (b : Bool) → InOrder (row (cond b (customer_in s k) no_customer).places)
unfolding no_customer
fresh_standalone s k true j h e = absurd (not_taken (rw (alike no_place (suc j)) at e))
fresh_standalone s k false j h e = absurd (not_taken (rw (alike no_place (suc j)) at e))

pub closed_fresh : (s : List ℕ) → ClosedUp (fresh_table s)
unfolding fresh_table no_call customers_from
closed_fresh s = record {
  under = λ i l j h e. absurd (not_taken (rw (get_or-replicate slots i no_call past_call l, alike no_place (suc j)) at e));
  standalone = λ k l. rw (get_d_each (λ k. cond (ltb k (customers_in s)) (customer_in s k) no_customer) 8 k past_customer l) (fresh_standalone s k (ltb k (customers_in s)));
}
