-- Each connection comes to stand behind those of its four that were added before it: a four has its connections in the
-- order of all of them.
-- Assumes nothing.
use Prim.Native.Nat.{ℕ, zero, suc, ◌<◌}
use native.Mathlib.Nat.{eq-or-lt_of_le, le_of_suc-le-suc, not-suc-le-zero}
use native.Mathlib.Omega.{arith}
use mathlib.Core.Path.{◌≡◌, refl, sym, ap, ◌∙◌}
use mathlib.Core.Logic.{⊎_elim}
use mathlib.Core.List.{List, [], ◌∷◌, ◌++◌, append-nil}
use mathlib.Core.Bool.{Bool, true, false, cond, not, ◌&&◌}
use lib.Dec.{ltb, eqb}
use lib.ListN.{get_or}
use lib.Seq.{get_or-set_other}
use borrow.Author.Tests.{eqb-true, eqb-false, eq-eqb, ne_eqb, not-true}
use Rattle.lists.specs.Count.{count_if, without}
use Rattle.lists.specs.Below.{element_if, list_if, below}
use Rattle.lists.proofs.Count.{has_true, without_append, without_none, without_others}
use Rattle.lists.proofs.Tests.{both}
use Rattle.lists.proofs.Below.{count_element, has_element, count_not_list_if, without_below, below_only, below_put}
use Rattle.lists.proofs.Search.{place_found}
use Rattle.table.specs.Table.{Call, Customer, Table}
use Rattle.table.specs.Total.{slots}
use Rattle.table.specs.Word.{is_used}
use Rattle.table.specs.Zeros.{past_call, past_customer}
use Rattle.table.specs.Lists.{customer_at, terms_of, listed_at, roster, call_at, ids_of, entry_of, open_at, Held, Four, call_four, customer_four, place_at, is_taken, connection_at, held_place, held_in, held_at, standalone_at, held}
use Rattle.table.specs.Share.{is_at}
use Rattle.spec_changes.specs.Shape.{Shape}
use Rattle.spec_changes.specs.Calls.{slot_of}
use Rattle.spec_changes.specs.Connections.{free_place, is_under, is_call_of, added_under, added_standalone, customer_of, added}
use Rattle.spec_changes.proofs.Valid.{ids_named}
use Rattle.spec_changes.proofs.Alike.{self}
use Rattle.spec_changes.proofs.Kept.{Kept}
use Rattle.spec_changes.proofs.Slot.{found_slot, call_here, call_other}
use Rattle.spec_changes.proofs.Everywhere.{none_in, none_under, none_standalone}
use Rattle.spec_changes.proofs.Added.{MayAdd, Put, put_standalone, put_under}
use Rattle.spec_changes.proofs.Tables.{added_words}
use Rattle.spec_changes.proofs.Told.{roster_kept}
use Rattle.spec_checkpoint.specs.Places.{InOrder, ClosedUp, without_places}
use Rattle.spec_checkpoint.specs.Latest.{refresh_in, latest_refresh}
use Rattle.spec_checkpoint.proofs.Latest.{largest_ext}
use Rattle.spec_checkpoint.proofs.AllKept.{one_place}
use Rattle.spec_checkpoint.proofs.Fours.{one_call}

-- a connection of Call ID 0 stands with a customer
abbrev pub is_standalone_of : Customer → Held → Bool
is_standalone_of c x = eqb x.call 0 && eqb x.lsp.sender c.address

-- of a list of connections, those under a call, those with a customer
abbrev pub under_of : Call → List Held → List Held
under_of c l = without (λ x. not (is_under (ids_of c) x)) l

abbrev pub standalone_of : Customer → List Held → List Held
standalone_of c l = without (λ x. not (is_standalone_of c x)) l

-- ---- one four

free_empty : (f : Four) (j : ℕ) → is_taken (place_at f j) ≡ false → held_place f j ≡ []
unfolding element_if
free_empty f j e = rw e

-- behind a free place all are free
free_behind : (taken : ℕ → Bool) → InOrder taken → (i : ℕ) → taken i ≡ false → (j : ℕ) → i < j → j < 4 → taken j ≡ false
free_behind taken o i e zero h l = absurd (not-suc-le-zero h)
free_behind taken o i e (suc j) h l =
    by (taken (suc j)) refl
    (⊎_elim (λ (q : i ≡ j). rw q at e) (λ (q : i < j). free_behind taken o i e j q (omega arith)) (eq-or-lt_of_le (le_of_suc-le-suc h)))
  where
    by : (b : Bool) → taken (suc j) ≡ b → taken j ≡ false → b ≡ false
    by false q before = refl
    by true q before = sym (o j (omega arith) q) ∙ before

-- a connection put into the lowest free place stands at the end
four_put : (f g : Four) (x : Held) → InOrder (λ j. is_taken (place_at f j)) → Put f g x → held_in g ≡ held_in f ++ x ∷ []
four_put f g x o k =
    let free = not-true (is_taken (place_at f (free_place f))) k.free.passes in
    below_put (held_place f) (held_place g) (free_place f) 4 k.free.inside k.other (free_empty f (free_place f) free)
    (λ j h l. free_empty f j (free_behind (λ j. is_taken (place_at f j)) o (free_place f) free j h l))
    ∙ ap (λ l. held_in f ++ l) k.there

-- ---- one call, one customer

module _ (t : Table) (k : Kept t) where
  -- a connection is under one call alone
  pub one_under : (x : Held) (i j : ℕ) → i < slots → j < slots → is_used t.occupied i ≡ true → is_used t.occupied j ≡ true
      → is_under (ids_of (call_at t i)) x ≡ true → is_under (ids_of (call_at t j)) x ≡ true → i ≡ j
  one_under x i j h l u v a b = one_place (open_at t) (is_call_of x) i j slots h l (here i u a) (here j v b) (one_call t k x)
    where
      here : (i : ℕ) → is_used t.occupied i ≡ true → is_under (ids_of (call_at t i)) x ≡ true → 0 < count_if (is_call_of x) (open_at t i)
      here i u a =
          let e : count_if (is_call_of x) (open_at t i) ≡ 1 = count_element (is_call_of x) (is_used t.occupied i) (entry_of i (call_at t i)) ∙ rw (u, a) in
          omega arith

  -- an address is one customer's alone
  pub one_customer : (a i j : ℕ) → i < 8 → j < 8 → ltb i t.listed ≡ true → ltb j t.listed ≡ true
      → eqb a (customer_at t i).address ≡ true → eqb a (customer_at t j).address ≡ true → i ≡ j
  one_customer a i j h l u v b c = one_place (listed_at t) (is_at a) i j 8 h l (here i u b) (here j v c) ((roster_kept t k.accepted).apart a)
    where
      here : (i : ℕ) → ltb i t.listed ≡ true → eqb a (customer_at t i).address ≡ true → 0 < count_if (is_at a) (listed_at t i)
      here i u b =
          let e : count_if (is_at a) (listed_at t i) ≡ 1 = count_element (is_at a) (ltb i t.listed) (terms_of (customer_at t i)) ∙ rw (u, b) in
          omega arith

  -- Call ID 0 is no call's
  not_under : (i : ℕ) → i < slots → is_used t.occupied i ≡ true → (x : Held) → x.call ≡ 0 → is_under (ids_of (call_at t i)) x ≡ false
  not_under i l u x e = rw (e, ne_eqb 0 (call_at t i).id (omega (arith, (ids_named (call_at t i) (k.names i l u)).some)))

  -- ---- what a table's fours have of all its connections

  pub under_all : (i : ℕ) → i < slots → is_used t.occupied i ≡ true → under_of (call_at t i) (held t) ≡ held_in (call_four (call_at t i))
  unfolding list_if
  under_all i l u =
      let p : Held → Bool = is_under (ids_of (call_at t i)) in
      let q : Held → Bool = λ x. not (p x) in
      let rest = without_others p (below (standalone_at t) 8) (none_standalone p t (λ m h v j _ _. not_under i l u (connection_at (customer_four (customer_at t m)) j) refl)) in
      let rows = below_only (λ j. without q (held_at t j)) i slots l (λ j h n. without_others p (held_at t j)
      (count_not_list_if p (is_used t.occupied j) (held_in (call_four (call_at t j))) (λ v. none_in p (call_four (call_at t j)) (λ m _ _. elsewhere j h v n m)))) in
      let all = without_none q (held_in (call_four (call_at t i))) (none_in q (call_four (call_at t i)) (λ m _ _. rw (own i (connection_at (call_four (call_at t i)) m) refl refl refl))) in
      without_append q (below (held_at t) slots) (below (standalone_at t) 8)
      ∙ rw (rest, without_below q (held_at t) slots, rows, append-nil (without q (held_at t i)), u) all
    where
      own : (i : ℕ) (x : Held) → x.call ≡ (call_at t i).id → x.lsp.endpoint ≡ (call_at t i).endpoint → x.lsp.sender ≡ (call_at t i).sender → is_under (ids_of (call_at t i)) x ≡ true
      own i x a b c = rw (a, b, c, self (call_at t i).id, self (call_at t i).endpoint, self (call_at t i).sender)

      elsewhere : (j : ℕ) → j < slots → is_used t.occupied j ≡ true → (j ≡ i → ⊥) → (m : ℕ) → is_under (ids_of (call_at t i)) (connection_at (call_four (call_at t j)) m) ≡ false
      elsewhere j h v n m = by (is_under (ids_of (call_at t i)) x) refl
        where
          x : Held
          x = connection_at (call_four (call_at t j)) m

          by : (b : Bool) → is_under (ids_of (call_at t i)) x ≡ b → b ≡ false
          by false e = refl
          by true e = absurd (n (one_under x j i h l v u (own j x refl refl refl) e))

  pub standalone_all : (i : ℕ) → i < 8 → ltb i t.listed ≡ true → standalone_of (customer_at t i) (held t) ≡ held_in (customer_four (customer_at t i))
  unfolding list_if
  standalone_all i l u =
      let p : Held → Bool = is_standalone_of (customer_at t i) in
      let q : Held → Bool = λ x. not (p x) in
      let rest = without_others p (below (held_at t) slots)
      (none_under p t (λ m h v j _ _. rw (ne_eqb (call_at t m).id 0 (omega (arith, (ids_named (call_at t m) (k.names m h v)).some))))) in
      let rows = below_only (λ j. without q (standalone_at t j)) i 8 l (λ j h n. without_others p (standalone_at t j)
      (count_not_list_if p (ltb j t.listed) (held_in (customer_four (customer_at t j))) (λ v. none_in p (customer_four (customer_at t j)) (λ m _ _. elsewhere j h v n)))) in
      let all = without_none q (held_in (customer_four (customer_at t i))) (none_in q (customer_four (customer_at t i)) (λ m _ _. rw (self (customer_at t i).address))) in
      without_append q (below (held_at t) slots) (below (standalone_at t) 8)
      ∙ rw (rest, without_below q (standalone_at t) 8, rows, u) all
    where
      elsewhere : (j : ℕ) → j < 8 → ltb j t.listed ≡ true → (j ≡ i → ⊥) → eqb (customer_at t j).address (customer_at t i).address ≡ false
      elsewhere j h v n = by (eqb (customer_at t j).address (customer_at t i).address) refl
        where
          by : (b : Bool) → eqb (customer_at t j).address (customer_at t i).address ≡ b → b ≡ false
          by false e = refl
          by true e = absurd (n (one_customer (customer_at t j).address j i h l v u (self (customer_at t j).address) e))

-- ---- a connection added: it stands at the end of its four, and every other four is as it was

module _ (t : Table) (x : Held) (s : Shape t) (k : Kept t) (m : MayAdd t x) (o : ClosedUp t) where
  standalone_calls : x.call ≡ 0 → (added t x).calls ≡ t.calls
  unfolding added added_standalone
  standalone_calls e = rw (eq-eqb x.call 0 e)

  under_customers : (x.call ≡ 0 → ⊥) → (added t x).customers ≡ t.customers
  unfolding added added_under
  under_customers n = rw (ne_eqb x.call 0 n)

  under_elsewhere : (x.call ≡ 0 → ⊥) → (i : ℕ) → (i ≡ slot_of t (is_call_of x) → ⊥) → call_at (added t x) i ≡ call_at t i
  unfolding added added_under
  under_elsewhere n i d = rw (ne_eqb x.call 0 n) (call_other t t.occupied (slot_of t (is_call_of x)) _ (found_slot t (is_call_of x) (m.call n)).0 s.calls i d)

  standalone_elsewhere : x.call ≡ 0 → (i : ℕ) → (i ≡ customer_of t x.lsp.sender → ⊥) → customer_at (added t x) i ≡ customer_at t i
  unfolding added added_standalone
  standalone_elsewhere e i d = rw (eq-eqb x.call 0 e) (get_or-set_other t.customers (customer_of t x.lsp.sender) i _ past_customer d)

  under_here : (x.call ≡ 0 → ⊥) → without_places (call_at (added t x) (slot_of t (is_call_of x))) ≡ without_places (call_at t (slot_of t (is_call_of x)))
  unfolding added added_under
  under_here n = rw (ne_eqb x.call 0 n, call_here t t.occupied (slot_of t (is_call_of x)) _ (found_slot t (is_call_of x) (m.call n)).0 s.calls)

  -- no field of a call changes but its places
  pub fields_stay : (i : ℕ) → without_places (call_at (added t x) i) ≡ without_places (call_at t i)
  fields_stay i = by (eqb x.call 0) refl (eqb i (slot_of t (is_call_of x))) refl
    where
      by : (a : Bool) → eqb x.call 0 ≡ a → (b : Bool) → eqb i (slot_of t (is_call_of x)) ≡ b → without_places (call_at (added t x) i) ≡ without_places (call_at t i)
      by true e b q = ap (λ l. without_places (get_or l i past_call)) (standalone_calls (eqb-true x.call 0 e))
      by false e true q = rw (eqb-true i (slot_of t (is_call_of x)) q) (under_here (eqb-false x.call 0 e))
      by false e false q = ap without_places (under_elsewhere (eqb-false x.call 0 e) i (eqb-false i (slot_of t (is_call_of x)) q))

  pub refreshes_stay : latest_refresh (added t x) ≡ latest_refresh t
  refreshes_stay = largest_ext (refresh_in (added t x)) (refresh_in t) slots (λ i h. rw (added_words t x) (ap (λ c. cond (is_used t.occupied i) c.refreshed 0) (fields_stay i)))

  pub under_grows : (i : ℕ) → i < slots → is_used t.occupied i ≡ true
      → held_in (call_four (call_at (added t x) i)) ≡ held_in (call_four (call_at t i)) ++ under_of (call_at t i) (x ∷ [])
  under_grows i l u = by (eqb x.call 0) refl (eqb i at) refl
    where
      at : ℕ
      at = slot_of t (is_call_of x)

      found : (x.call ≡ 0 → ⊥) → (at < slots) × (is_used t.occupied at ≡ true) × (is_under (ids_of (call_at t at)) x ≡ true)
      found n = found_slot t (is_call_of x) (m.call n)

      other : (x.call ≡ 0 → ⊥) → (i ≡ at → ⊥) → (b : Bool) → is_under (ids_of (call_at t i)) x ≡ b → b ≡ false
      other n d false e = refl
      other n d true e = absurd (d (one_under t k x i at l (found n).0 u (found n).1 e (found n).2))

      by : (a : Bool) → eqb x.call 0 ≡ a → (b : Bool) → eqb i at ≡ b
          → held_in (call_four (call_at (added t x) i)) ≡ held_in (call_four (call_at t i)) ++ under_of (call_at t i) (x ∷ [])
      by true e b q =
          let z = eqb-true x.call 0 e in
          rw (standalone_calls z, not_under t k i l u x z) (sym (append-nil (held_in (call_four (call_at t i)))))
      by false e true q =
          let n = eqb-false x.call 0 e in
          rw (eqb-true i at q, (found n).2) (four_put _ _ x (o.under at (found n).0) (put_under t x s m n))
      by false e false q =
          let n = eqb-false x.call 0 e in
          let d = eqb-false i at q in
          rw (under_elsewhere n i d, other n d (is_under (ids_of (call_at t i)) x) refl) (sym (append-nil (held_in (call_four (call_at t i)))))

  pub standalone_grows : (i : ℕ) → i < 8 → ltb i t.listed ≡ true
      → held_in (customer_four (customer_at (added t x) i)) ≡ held_in (customer_four (customer_at t i)) ++ standalone_of (customer_at t i) (x ∷ [])
  standalone_grows i l u = by (eqb x.call 0) refl (eqb i at) refl
    where
      at : ℕ
      at = customer_of t x.lsp.sender

      found : (at < 8) × (ltb at t.listed ≡ true) × (eqb x.lsp.sender (customer_at t at).address ≡ true)
      found =
          let f = place_found (listed_at t) (is_at x.lsp.sender) 8 (has_true _ (roster t) m.known) in
          let h = both (ltb at t.listed) _ (sym (has_element _ (ltb at t.listed) (terms_of (customer_at t at))) ∙ f.passes) in
          (f.inside, h.0, h.1)

      other : (i ≡ at → ⊥) → (b : Bool) → eqb x.lsp.sender (customer_at t i).address ≡ b → b ≡ false
      other d false e = refl
      other d true e = absurd (d (one_customer t k x.lsp.sender i at l found.0 u found.1 e found.2))

      by : (a : Bool) → eqb x.call 0 ≡ a → (b : Bool) → eqb i at ≡ b
          → held_in (customer_four (customer_at (added t x) i)) ≡ held_in (customer_four (customer_at t i)) ++ standalone_of (customer_at t i) (x ∷ [])
      by false e b q = rw (under_customers (eqb-false x.call 0 e), e) (sym (append-nil (held_in (customer_four (customer_at t i)))))
      by true e true q =
          rw (eqb-true i at q, e, found.2) (four_put _ _ x (o.standalone at found.0) (put_standalone t x s m (eqb-true x.call 0 e)))
      by true e false q =
          let d = eqb-false i at q in
          rw (standalone_elsewhere (eqb-true x.call 0 e) i d, e, other d (eqb x.lsp.sender (customer_at t i).address) refl)
          (sym (append-nil (held_in (customer_four (customer_at t i)))))
