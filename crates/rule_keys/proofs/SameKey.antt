-- What is the same has the same key: so where no two keys of a table are equal, no pair has a short or a long ID or a request
-- twice, and no connection is held twice (`keys_say`).
-- Assumes nothing.
use Prim.Native.Nat.{ℕ, zero, suc, ◌≤◌, ◌<◌}
use native.Mathlib.Omega.{arith}
use mathlib.Core.Path.{◌≡◌, refl, ap}
use mathlib.Core.List.{List, [], ◌∷◌, map}
use mathlib.Core.Bool.{Bool, true, false, not, ◌&&◌}
use lib.Dec.{eqb, ltb}
use borrow.Author.Tests.{eq-eqb, eqb-true, not-true}
use Rattle.lists.specs.Count.{bit, count_if, has, no_two}
use Rattle.lists.specs.Below.{element_if, list_if, below, every_below}
use Rattle.lists.proofs.Tests.{both}
use Rattle.lists.proofs.Count.{has_less, has_false, has_nothing, count_append}
use Rattle.lists.proofs.Below.{count_none, count_below_lem, every_at}
use Rattle.lists.proofs.Once.{no_two_once, once_no_two}
use Rattle.table.specs.Table.{Call, Table}
use Rattle.table.specs.Total.{slots}
use Rattle.table.specs.Word.{is_used}
use Rattle.table.specs.Lists.{Ids, Entry, ids_of, customer_at, call_at, is_made, entry_of, open_at, entries, Held, call_four, customer_four, held_in, held_at, standalone_at, held}
use Rattle.table.specs.Rules.{same_bytes, same_pair, same_short, same_long, same_request, same_lsp, same_connection, slot_free_clear, record_free_clear, holds, short_ids_once, long_ids_once, requests_once, connections_once, free_holds_zeros}
use Rattle.table.specs.Words.{table_of}
use Rattle.table.proofs.SameBytes.{same_bytes_lem}
use Rattle.table_words.proofs.Padded.{name_room, free_zeros, padded, name_padded}
use Rattle.rule_keys.specs.Keys.{short_key, long_key, request_key, lsp_key, request_keys, held_keys, call_keys, call_keys_at, standalone_keys_at, keys_of}

-- ---- the same key

-- of a call's IDs; the table holds a long ID with zeros behind it
abbrev short_of : Ids → ℕ
short_of c = short_key c.endpoint c.sender c.short

abbrev long_of : Ids → ℕ
long_of c = long_key c.endpoint c.sender (padded c.long)

short_same : (c d : Ids) → same_short c d ≡ true → short_of c ≡ short_of d
unfolding same_short
short_same c d h =
    let k = both (same_pair c d) (eqb c.short d.short) h in
    let m = both (eqb c.endpoint d.endpoint) (eqb c.sender d.sender) k.0 in
    rw (eqb-true c.endpoint d.endpoint m.0, eqb-true c.sender d.sender m.1, eqb-true c.short d.short k.1)

long_same : (c d : Ids) → same_long c d ≡ true → long_of c ≡ long_of d
unfolding same_long
long_same c d h =
    let k = both (same_pair c d) (same_bytes c.long d.long) h in
    let m = both (eqb c.endpoint d.endpoint) (eqb c.sender d.sender) k.0 in
    rw (eqb-true c.endpoint d.endpoint m.0, eqb-true c.sender d.sender m.1, same_bytes_lem c.long d.long k.1)

-- of a request: only calls that the node made have one
abbrev request_of : Entry → ℕ
request_of e = request_key e.ids.endpoint e.ids.sender e.request.epoch e.request.identifier

request_same : (e f : Entry) → same_request e f ≡ true → (e.made ≡ true) × (f.made ≡ true) × (request_of e ≡ request_of f)
unfolding same_request
request_same e f h =
    let k = both _ (eqb e.request.identifier f.request.identifier) h in
    let l = both _ (eqb e.request.epoch f.request.epoch) k.0 in
    let m = both (e.made && f.made) (same_pair e.ids f.ids) l.0 in
    let n = both (eqb e.ids.endpoint f.ids.endpoint) (eqb e.ids.sender f.ids.sender) m.1 in
    let made = both e.made f.made m.0 in (
      made.0,
      made.1,
      rw (
        eqb-true e.ids.endpoint f.ids.endpoint n.0,
        eqb-true e.ids.sender f.ids.sender n.1,
        eqb-true e.request.epoch f.request.epoch l.1,
        eqb-true e.request.identifier f.request.identifier k.1,
      ),
    )

lsp_same : (x y : Held) → same_connection x y ≡ true → lsp_key x.lsp ≡ lsp_key y.lsp
unfolding same_lsp
lsp_same x y h =
    let k = both _ (eqb x.lsp.lsp_id y.lsp.lsp_id) h in
    let l = both _ (eqb x.lsp.extended y.lsp.extended) k.0 in
    let m = both _ (eqb x.lsp.tunnel y.lsp.tunnel) l.0 in
    let n = both (eqb x.lsp.endpoint y.lsp.endpoint) (eqb x.lsp.sender y.lsp.sender) m.0 in
    rw (
      eqb-true x.lsp.endpoint y.lsp.endpoint n.0,
      eqb-true x.lsp.sender y.lsp.sender n.1,
      eqb-true x.lsp.tunnel y.lsp.tunnel m.1,
      eqb-true x.lsp.extended y.lsp.extended l.1,
      eqb-true x.lsp.lsp_id y.lsp.lsp_id k.1,
    )

-- ---- no two the same, by their keys

eqb_alike : (b c d : ℕ) → eqb b c ≡ true → eqb b d ≡ eqb c d
eqb_alike b c d h = rw (eqb-true b c h)

-- a key, and whether it counts
abbrev Marked : Type 0
Marked = Bool × ℕ

abbrev same_marked : Marked → Marked → Bool
same_marked b c = b.0 && c.0 && eqb b.1 c.1

marked_alike : (b c d : Marked) → same_marked b c ≡ true → same_marked b d ≡ same_marked c d
marked_alike b c d h =
    let k = both (b.0 && c.0) (eqb b.1 c.1) h in
    let m = both b.0 c.0 k.0 in
    rw (m.0, m.1, eqb-true b.1 c.1 k.1)

marked_self : (b c : Marked) → same_marked b c ≡ true → same_marked b b ≡ true
marked_self b c h =
    let k = both (b.0 && c.0) (eqb b.1 c.1) h in
    rw ((both b.0 c.0 k.0).0, eq-eqb b.1 b.1 refl)

no_two_less : {A : Type 0} (p q : A → A → Bool) (l : List A) → ((x y : A) → p x y ≡ true → q x y ≡ true) → no_two q l ≡ true → no_two p l ≡ true
no_two_less p q [] h z = refl
no_two_less p q (x ∷ l) h z =
    let k = both (not (has (q x) l)) (no_two q l) z in
    rw (has_less (p x) (q x) l (h x) (not-true _ k.0), no_two_less p q l h k.1)

-- the keys that count of a list are among the keys of which no two are equal
once_by_keys : {A : Type 0} (same : A → A → Bool) (counts : A → Bool) (key : A → ℕ) (l : List A) (keys : List ℕ)
    → ((x y : A) → same x y ≡ true → (counts x ≡ true) × (counts y ≡ true) × (key x ≡ key y))
    → ((k : ℕ) → count_if (λ x. counts x && eqb k (key x)) l ≤ count_if (eqb k) keys) → no_two eqb keys ≡ true → no_two same l ≡ true
once_by_keys {A = A} same counts key l keys h among apart =
    no_two_less same (λ x y. same_marked (marked x) (marked y)) l (λ x y e. let m = h x y e in rw (m.0, m.1, eq-eqb (key x) (key y) m.2))
    (once_no_two same_marked marked marked_alike marked_self l once)
  where
    marked : A → Marked
    marked x = (counts x, key x)

    once : (b : Marked) → count_if (λ x. same_marked b (marked x)) l ≤ 1
    once (true, k) = omega (arith, among k, no_two_once eqb (λ (x : ℕ). x) eqb_alike keys apart k)
    once (false, k) = omega (arith, has_false (λ x. false) l (has_nothing (λ x. false) l (λ x. refl)))

-- ---- keys among keys

count_mapped : {A : Type 0} (p : ℕ → Bool) (f : A → ℕ) (l : List A) → count_if (λ x. p (f x)) l ≡ count_if p (map f l)
count_mapped p f [] = refl
count_mapped p f (x ∷ l) = rw (count_mapped p f l)

-- place by place
below_among : {A : Type 0} (f : ℕ → List A) (g : ℕ → List ℕ) (p : A → Bool) (q : ℕ → Bool) (n : ℕ)
    → ((i : ℕ) → i < n → count_if p (f i) ≤ count_if q (g i)) → count_if p (below f n) ≤ count_if q (below g n)
below_among f g p q zero h = omega (arith, count_none f p)
below_among f g p q (suc n) h =
    omega (arith, count_below_lem f p n, count_below_lem g q n, below_among f g p q n (λ i l. h i (omega arith)), h n (omega arith))

-- in a slot, where it is used
module _ (k : ℕ) where
  one_among : {A : Type 0} (p : A → Bool) (u : Bool) (x : A) (l : List ℕ) → (u ≡ true → bit (p x) ≤ count_if (eqb k) l) → count_if p (element_if u x) ≤ count_if (eqb k) (list_if u l)
  unfolding element_if list_if
  one_among p true x l h = omega (arith, h refl)
  one_among p false x l h = omega arith

  some_among : {A : Type 0} (p : A → Bool) (u : Bool) (s : List A) (l : List ℕ) → count_if p s ≤ count_if (eqb k) l → count_if p (list_if u s) ≤ count_if (eqb k) (list_if u l)
  unfolding list_if
  some_among p true s l h = h
  some_among p false s l h = omega arith

-- ---- the table's

module _ (t : Table) (k : ℕ) where
  calls_among : {A : Type 0} (f : ℕ → List A) (p : A → Bool) → ((i : ℕ) → i < slots → count_if p (f i) ≤ count_if (eqb k) (call_keys_at t i))
      → count_if p (below f slots) ≤ count_if (eqb k) (keys_of t)
  calls_among f p h =
      omega (arith, below_among f (call_keys_at t) p (eqb k) slots h, count_append (eqb k) (below (call_keys_at t) slots) (below (standalone_keys_at t) 8))

  held_among : count_if (λ x. eqb k (lsp_key x.lsp)) (held t) ≤ count_if (eqb k) (keys_of t)
  held_among =
      omega (
        arith,
        count_append p (below (held_at t) slots) (below (standalone_at t) 8),
        count_append (eqb k) (below (call_keys_at t) slots) (below (standalone_keys_at t) 8),
        below_among (held_at t) (call_keys_at t) p (eqb k) slots
            (λ i l. some_among k p (is_used t.occupied i) (under i) (call_keys (call_at t i))
            (omega (arith, count_mapped (eqb k) (λ (x : Held). lsp_key x.lsp) (under i), count_append (eqb k) (request_keys (call_at t i)) (held_keys (under i))))),
        below_among (standalone_at t) (standalone_keys_at t) p (eqb k) 8
            (λ m l. some_among k p (ltb m t.listed) (alone m) (held_keys (alone m)) (omega (arith, count_mapped (eqb k) (λ (x : Held). lsp_key x.lsp) (alone m)))),
      )
    where
      p : Held → Bool
      p x = eqb k (lsp_key x.lsp)

      under : ℕ → List Held
      under i = held_in (call_four (call_at t i))

      alone : ℕ → List Held
      alone m = held_in (customer_four (customer_at t m))

-- a call's request is among its keys, where the node made it
request_among : (k : ℕ) (c : Call) → bit (is_made c && eqb k (request_of (entry_of 0 c))) ≤ count_if (eqb k) (call_keys c)
unfolding element_if
request_among k c = omega (arith, count_append (eqb k) (request_keys c) (held_keys (held_in (call_four c))), by (is_made c))
  where
    by : (b : Bool) → bit (b && eqb k (request_of (entry_of 0 c))) ≤ count_if (eqb k) (element_if b (request_of (entry_of 0 c)))
    by true = omega arith
    by false = omega arith

-- a used slot holds zeros behind its name, so that its long ID is all of it
long_key_lem : (w : List ℕ) (i : ℕ) → holds free_holds_zeros (table_of w) ≡ true → i < slots → is_used (table_of w).occupied i ≡ true
    → long_key (call_at (table_of w) i).endpoint (call_at (table_of w) i).sender (call_at (table_of w) i).name ≡ long_of (ids_of (call_at (table_of w) i))
long_key_lem w i zeros l u =
    let t = table_of w in
    let c = call_at t i in
    let free = (both (every_below (slot_free_clear t) slots) (every_below (record_free_clear t) 8) zeros).0 in
    let clear = rw u at (every_at (slot_free_clear t) slots free i l) in
    ap (λ (n : List ℕ). long_key c.endpoint c.sender n) (name_padded c.name c.size (name_room w i l) (free_zeros c clear))

pub keys_say : (w : List ℕ) → holds free_holds_zeros (table_of w) ≡ true → no_two eqb (keys_of (table_of w)) ≡ true
    → (holds short_ids_once (table_of w) ≡ true) × (holds long_ids_once (table_of w) ≡ true) × (holds requests_once (table_of w) ≡ true) × (holds connections_once (table_of w) ≡ true)
keys_say w zeros apart =
    let t = table_of w in (
      once_by_keys (λ e f. same_short e.ids f.ids) (λ e. true) (λ e. short_of e.ids) (entries t) (keys_of t) (λ e f h. (refl, refl, short_same e.ids f.ids h))
          (λ k. calls_among t k (open_at t) (λ e. eqb k (short_of e.ids)) (λ i l. one_among k _ (is_used t.occupied i) _ (call_keys (call_at t i)) (λ u. omega arith)))
          apart,
      once_by_keys (λ e f. same_long e.ids f.ids) (λ e. true) (λ e. long_of e.ids) (entries t) (keys_of t) (λ e f h. (refl, refl, long_same e.ids f.ids h))
          (λ k. calls_among t k (open_at t) (λ e. eqb k (long_of e.ids))
          (λ i l. one_among k _ (is_used t.occupied i) _ (call_keys (call_at t i)) (λ u. omega (arith, ap (λ (n : ℕ). bit (eqb k n)) (long_key_lem w i zeros l u)))))
          apart,
      once_by_keys same_request (λ e. e.made) request_of (entries t) (keys_of t) request_same
          (λ k. calls_among t k (open_at t) (λ e. e.made && eqb k (request_of e))
          (λ i l. one_among k _ (is_used t.occupied i) _ (call_keys (call_at t i)) (λ u. request_among k (call_at t i))))
          apart,
      once_by_keys same_connection (λ x. true) (λ x. lsp_key x.lsp) (held t) (keys_of t) (λ x y h. (refl, refl, lsp_same x y h)) (held_among t) apart,
    )
