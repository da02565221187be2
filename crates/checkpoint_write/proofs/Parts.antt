-- What a slot, a place and the lists of connections have in a checkpoint.
-- Assumes nothing.
use Prim.Native.Nat.{ℕ, zero, suc, ◌*◌, ◌<◌}
use native.Mathlib.Omega.{arith}
use mathlib.Core.Path.{◌≡◌, refl, sym, ap, ◌∙◌}
use mathlib.Core.Bool.{Bool, true, false}
use mathlib.Core.List.{List, [], ◌∷◌, ◌++◌, append_assoc}
use lib.Dec.{ltb}
use lib.ListN.{length, length-append}
use borrow.Author.Tests.{ltb-true, eq-eqb, ne_eqb}
use Rattle.lists.specs.Below.{element_if, list_if, below}
use Rattle.lists.proofs.Below.{every_at}
use Rattle.lists.proofs.Tests.{both}
use Rattle.table.specs.Table.{Place, Table}
use Rattle.table.specs.Total.{slots}
use Rattle.table.specs.Word.{is_used}
use Rattle.table.specs.Lists.{call_at, customer_at, entry_of, entries, Held, Four, call_four, customer_four, place_at, is_taken, connection_at, held_place, held_in}
use Rattle.table.specs.Rules.{place_valid, rules_hold}
use Rattle.table.specs.Words.{occupied_of, table_of}
use Rattle.table_words.specs.Fours.{Alike}
use Rattle.table_words.proofs.Alike.{alike_held, alike_valid}
use Rattle.spec_changes.proofs.Told.{rules_kept}
use Rattle.spec_changes.proofs.Valid.{ids_named}
use Rattle.spec_checkpoint.proofs.Codec.{call_size, request_fits}
use Rattle.spec_checkpoint.proofs.Fours.{under_valid, standalone_valid}
use Rattle.spec_checkpoint.specs.Layout.{call_bytes, connection_bytes}
use Rattle.checkpoint_records.specs.Put.{Put, CallFields}
use Rattle.checkpoint_records.proofs.Behind.{name_long}
use Rattle.checkpoint_write.specs.Bytes.{calls_bytes, held_bytes, FourFits}
use Rattle.checkpoint_write.proofs.Grown.{front_none}

-- ---- where a place is taken, and where not

pub list_if_is {ℓ} : {A : Type ℓ} (b : Bool) (l : List A) → b ≡ true → list_if b l ≡ l
unfolding list_if
list_if_is true l e = refl
list_if_is false l e = cc

pub list_if_nothing {ℓ} : {A : Type ℓ} (b : Bool) (l : List A) → b ≡ false → list_if b l ≡ []
unfolding list_if
list_if_nothing true l e = cc
list_if_nothing false l e = refl

-- ---- calls

one_block : {A : Type 0} (b : Bool) (l : List ℕ) (a : A) → length l ≡ 55 → length (list_if b l) ≡ 55 * length (element_if b a)
unfolding list_if element_if
one_block true l a e = e
one_block false l a e = refl

-- blocks of 55 bytes beside a list of as many elements
blocks_length : {A : Type 0} (b : ℕ → Bool) (x : ℕ → List ℕ) (y : ℕ → A) (n : ℕ) → ((i : ℕ) → i < n → length (x i) ≡ 55)
    → length (below (λ i. list_if (b i) (x i)) n) ≡ 55 * length (below (λ i. element_if (b i) (y i)) n)
unfolding below
blocks_length b x y zero h = refl
blocks_length b x y (suc n) h =
    let before = blocks_length b x y n (λ i l. h i (omega arith)) in
    omega (
      arith,
      length-append (below (λ i. list_if (b i) (x i)) n) (list_if (b n) (x n)),
      length-append (below (λ i. element_if (b i) (y i)) n) (element_if (b n) (y n)),
      one_block (b n) (x n) (y n) (h n (omega arith)),
    )

pub calls_length : (w : List ℕ) → length (calls_bytes (table_of w)) ≡ 55 * length (entries (table_of w))
unfolding calls_bytes
calls_length w =
    blocks_length (is_used (occupied_of w)) (λ i. call_bytes i (call_at (table_of w) i)) (λ i. entry_of i (call_at (table_of w) i)) slots
    (λ i l. call_size i (call_at (table_of w) i) (name_long w i l))

pub used_writable : (t : Table) → rules_hold t ≡ true → (i : ℕ) → i < slots → is_used t.occupied i ≡ true → CallFields (call_at t i)
used_writable t h i l u =
    let k = rules_kept t h in
    let n = ids_named (call_at t i) (k.names i l u) in
    record { id = n.fits; made = (request_fits (call_at t i) (rw u at (k.slots i l))).0; size = omega (arith, n.most) }

-- ---- connections

pub held_none : held_bytes [] ≡ []
unfolding held_bytes
held_none = refl

pub held_one : (x : Held) → held_bytes (x ∷ []) ≡ connection_bytes x
unfolding held_bytes
held_one x = refl

pub held_append : (l k : List Held) → held_bytes (l ++ k) ≡ held_bytes l ++ held_bytes k
unfolding held_bytes
held_append [] k = refl
held_append (x ∷ l) k = ap (λ (r : List ℕ). connection_bytes x ++ r) (held_append l k) ∙ sym (append_assoc (connection_bytes x) (held_bytes l) (held_bytes k))

pub held_below : (f : ℕ → List Held) (n : ℕ) → held_bytes (below f n) ≡ below (λ i. held_bytes (f i)) n
unfolding below
held_below f zero = held_none
held_below f (suc n) = held_append (below f n) (f n) ∙ ap (λ (r : List ℕ). r ++ held_bytes (f n)) (held_below f n)

pub held_length : (l : List Held) → length (held_bytes l) ≡ 18 * length l
unfolding held_bytes
held_length [] = refl
held_length (x ∷ l) = omega (arith, length-append (connection_bytes x) (held_bytes l), held_length l)

pub held_list_if : (b : Bool) (l : List Held) → held_bytes (list_if b l) ≡ list_if b (held_bytes l)
unfolding list_if
held_list_if true l = refl
held_list_if false l = held_none

pub held_element : (b : Bool) (x : Held) → held_bytes (element_if b x) ≡ list_if b (connection_bytes x)
unfolding list_if element_if
held_element true x = held_one x
held_element false x = held_none

-- ---- a writer that writes where a place is taken

pub put_taken : {l x y : List ℕ} {r : ℕ} (b : Bool) → b ≡ true → Put l r x y → Put (list_if b l) r x y
put_taken {l} b e w = rw (list_if_is b l e) w

pub put_nothing : (l x : List ℕ) (b : Bool) → b ≡ false → Put (list_if b l) 0 x x
put_nothing l x b e = rw (list_if_nothing b l e) (record { count = refl; is = front_none x })

-- ---- one place of a four, read as x

module _ (f : Four) (j : ℕ) (x : Place) (e : x ≡ place_at f j) where
  pub place_free : (x.taken ≡ 1 → ⊥) → (l : List ℕ) → Put (held_bytes (held_place f j)) 0 l l
  place_free n l =
      rw (held_element (is_taken (place_at f j)) (connection_at f j)) (put_nothing (connection_bytes (connection_at f j)) l (is_taken (place_at f j)) (rw (← e) (ne_eqb x.taken 1 n)))

  module _ (t : x.taken ≡ 1) where
    place_taken : is_taken (place_at f j) ≡ true
    place_taken = rw (← e) (eq-eqb x.taken 1 t)

    pub place_room : length (held_bytes (held_place f j)) ≡ 18
    place_room = rw (held_element (is_taken (place_at f j)) (connection_at f j), list_if_is _ (connection_bytes (connection_at f j)) place_taken)

    -- its numbers fit
    pub numbers_fit : FourFits f → j < 4 → (x.tunnel < 0x10000) × (x.lsp < 0x10000)
    unfolding place_valid
    numbers_fit w l =
        let h : place_valid (place_at f j) ≡ true = every_at _ 4 w.valid j l in
        let k = both (ltb (place_at f j).tunnel 0x10000) _ (rw place_taken at h) in
        rw e (ltb-true _ _ k.0, ltb-true _ _ k.1)

    pub place_put : {r : ℕ} {l m : List ℕ} (endpoint : ℕ) → endpoint ≡ f.endpoint j
        → Put (connection_bytes (record { call = f.call; lsp = record { endpoint = endpoint; tunnel = x.tunnel; extended = x.extended; sender = f.sender; lsp_id = x.lsp } })) r l m
        → Put (held_bytes (held_place f j)) r l m
    place_put endpoint p w = rw (held_element (is_taken (place_at f j)) (connection_at f j)) (put_taken (is_taken (place_at f j)) place_taken (rw (p, e) at w))

-- ---- a four by its place

pub four_bytes : (used b : Bool) (f g : Four) → used ≡ b → Alike f g → held_bytes (list_if used (held_in f)) ≡ held_bytes (list_if b (held_in g))
four_bytes used b f g e a = rw (e, alike_held f g a)

pub alike_fits : (f g : Four) → Alike f g → FourFits g → FourFits f
alike_fits f g a w = record { call = rw a.call w.call; valid = alike_valid f g a ∙ w.valid }

module _ (t : Table) (h : rules_hold t ≡ true) where
  pub call_fits_lem : (i : ℕ) → i < slots → is_used t.occupied i ≡ true → FourFits (call_four (call_at t i))
  call_fits_lem i l u =
      let k = rules_kept t h in
      record { call = (ids_named (call_at t i) (k.names i l u)).fits; valid = under_valid t k i l u }

  pub customer_fits : (k : ℕ) → k < 8 → ltb k t.listed ≡ true → FourFits (customer_four (customer_at t k))
  customer_fits k l u = record { call = omega arith; valid = standalone_valid t (rules_kept t h) k l u }
