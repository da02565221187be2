-- Connections in rows: one more put behind the others (`rows_put`, `place_taken`, `place_free`, `lsps_turn`), and rows
-- compared with those before them (`repeated_turn`, `once_turn`).
-- Assumes nothing.
use Prim.Native.Nat.{ℕ, ◌+◌, ◌<◌}
use native.Mathlib.Omega.{arith}
use mathlib.Core.Path.{◌≡◌, refl, sym, ap, ap₂, ◌∙◌}
use mathlib.Core.List.{List, [], ◌∷◌, ◌++◌, map-append, append_assoc}
use mathlib.Core.Bool.{Bool, true, false, not, ◌&&◌, ◌||◌, and-true}
use lib.Dec.{eqb}
use lib.ListN.{length, get_or, set}
use lib.Seq.{get_or-set_same, get_or-set_other}
use borrow.Author.Tests.{eq-eqb, ne_eqb}
use Rattle.lists.specs.Count.{has, no_two}
use Rattle.lists.specs.Below.{element_if, below}
use Rattle.lists.proofs.Below.{below_none, below_more, below_ext, has_turn}
use Rattle.lists.proofs.Pairs.{no_two_append, meet_element}
use Rattle.table.specs.Table.{Place}
use Rattle.table.specs.Lists.{Lsp, Held, Four, place_at, is_taken, held_place}
use Rattle.table.specs.Rules.{same_lsp}
use Rattle.table_words.specs.Fours.{place_of_words}
use Rattle.table_words.specs.declared.fours.PlaceWords.{PlaceWords}
use Rattle.rule_connections.specs.Rows.{row_at, rows, lsps_of}

-- ---- a place's connection, by its words

module _ (f : Four) (p : PlaceWords) (j : ℕ) (e : place_of_words p ≡ place_at f j) where
  -- the connection that the words are, at an end point
  abbrev lsp_of : ℕ → Place → Lsp
  lsp_of endpoint x = record { endpoint = endpoint; tunnel = x.tunnel; extended = x.extended; sender = f.sender; lsp_id = x.lsp }

  pub place_taken : (endpoint : ℕ) → p.taken ≡ 1 → endpoint ≡ f.endpoint j → lsps_of (held_place f j) ≡ lsp_of endpoint (place_of_words p) ∷ []
  unfolding element_if
  place_taken endpoint h at =
      let taken : is_taken (place_at f j) ≡ true = sym (ap (λ (x : Place). is_taken x) e) ∙ eq-eqb p.taken 1 h in
      rw taken (ap (λ (x : Lsp). x ∷ []) (sym (ap₂ (λ (n : ℕ) (x : Place). lsp_of n x) at e)))

  pub place_free : (p.taken ≡ 1 → ⊥) → lsps_of (held_place f j) ≡ []
  unfolding element_if
  place_free h =
      let free : is_taken (place_at f j) ≡ false = sym (ap (λ (x : Place). is_taken x) e) ∙ ne_eqb p.taken 1 h in
      rw free

-- those of one place more, put behind those of the places before, which were put behind `s`
pub lsps_turn : (f : ℕ → List Held) (j : ℕ) (s m n : List Lsp) → m ≡ s ++ lsps_of (below f j) → n ≡ m ++ lsps_of (f j) → n ≡ s ++ lsps_of (below f (j + 1))
lsps_turn f j s m n p q = rw (q, p, below_more f j, map-append (λ (x : Held). x.lsp) (below f j) (f j)) (append_assoc s _ _)

-- ---- rows

module _ (sender : ℕ) (endpoints tunnels extended lsps : List ℕ) where
  abbrev row : ℕ → Lsp
  row = row_at sender endpoints tunnels extended lsps

  abbrev first_rows : ℕ → List Lsp
  first_rows = rows sender endpoints tunnels extended lsps

  pub rows_none : first_rows 0 ≡ []
  unfolding rows
  rows_none = below_none (λ i. row i ∷ [])

  -- a row stored behind the first n
  pub rows_put : (n e u x l : ℕ) → n < length endpoints → n < length tunnels → n < length extended → n < length lsps
      → rows sender (set endpoints n e) (set tunnels n u) (set extended n x) (set lsps n l) (n + 1)
      ≡ first_rows n ++ record { endpoint = e; tunnel = u; extended = x; sender = sender; lsp_id = l } ∷ []
  unfolding rows row_at
  rows_put n e u x l a b c d =
      rw (
        below_more (λ i. row_at sender (set endpoints n e) (set tunnels n u) (set extended n x) (set lsps n l) i ∷ []) n,
        below_ext _ (λ i. row i ∷ []) n before,
        get_or-set_same endpoints n e 0 a,
        get_or-set_same tunnels n u 0 b,
        get_or-set_same extended n x 0 c,
        get_or-set_same lsps n l 0 d,
      )
    where
      before : (i : ℕ) → i < n → row_at sender (set endpoints n e) (set tunnels n u) (set extended n x) (set lsps n l) i ∷ [] ≡ row i ∷ []
      before i h =
          let other : i ≡ n → ⊥ = λ q. omega arith in
          rw (
            get_or-set_other endpoints n i e 0 other,
            get_or-set_other tunnels n i u 0 other,
            get_or-set_other extended n i x 0 other,
            get_or-set_other lsps n i l 0 other,
          )

  -- a row is compared with row j, by the numbers of both, where it was compared with the first j before
  pub repeated_turn : (i j : ℕ) (b : Bool) → b ≡ has (λ z. same_lsp z (row i)) (first_rows j)
      → (b
      || eqb (get_or endpoints j 0) (get_or endpoints i 0)
      && eqb (get_or tunnels j 0) (get_or tunnels i 0)
      && eqb (get_or extended j 0) (get_or extended i 0)
      && eqb (get_or lsps j 0) (get_or lsps i 0))
      ≡ has (λ z. same_lsp z (row i)) (first_rows (j + 1))
  unfolding rows row_at same_lsp element_if
  repeated_turn i j b h =
      has_turn (λ k. row k ∷ []) (λ z. same_lsp z (row i)) j b _ true (row j) refl h
      (rw (eq-eqb sender sender refl, and-true (eqb (get_or endpoints j 0) (get_or endpoints i 0))))

  -- row i, compared with those before it
  pub once_turn : (i : ℕ) (b s : Bool) → not b ≡ no_two same_lsp (first_rows i) → s ≡ has (λ z. same_lsp z (row i)) (first_rows i)
      → not (b || s) ≡ no_two same_lsp (first_rows (i + 1))
  unfolding rows
  once_turn i b s h q =
      rw (
        below_more (λ k. row k ∷ []) i,
        no_two_append same_lsp (first_rows i) (row i ∷ []),
        meet_element same_lsp (first_rows i) (row i) (λ z. same_lsp z (row i)) (λ z. refl),
        ← h,
        ← q,
      ) (by b s)
    where
      by : (b s : Bool) → not (b || s) ≡ (not b && not s)
      by true s = refl
      by false s = refl
