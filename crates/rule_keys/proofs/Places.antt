-- The keys of a place, by its words.
-- Assumes nothing.
use Prim.Native.Nat.{ℕ, ◌+◌}
use mathlib.Core.Path.{◌≡◌, sym, ap, ap₂, ◌∙◌}
use mathlib.Core.List.{List, [], ◌∷◌, ◌++◌, map-append, append_assoc}
use mathlib.Core.Bool.{true, false}
use lib.Dec.{eqb}
use borrow.Author.Tests.{eq-eqb, ne_eqb}
use Rattle.lists.specs.Below.{element_if, below}
use Rattle.lists.proofs.Below.{below_none, below_more}
use Rattle.table.specs.Table.{Place, Call}
use Rattle.table.specs.Lists.{Four, Lsp, call_four, place_at, is_taken, held_place, held_in}
use Rattle.table_words.specs.Heads.{head_of}
use Rattle.table_words.specs.Fours.{place_of_words, Alike}
use Rattle.table_words.specs.declared.calls.CallHead.{CallHead}
use Rattle.table_words.specs.declared.fours.PlaceWords.{PlaceWords}
use Rattle.table_words.proofs.Alike.{alike_held}
use Rattle.rule_keys.specs.Keys.{short_key, long_key, request_key, lsp_key, held_keys, call_keys}

module _ (f : Four) (p : PlaceWords) (j : ℕ) (e : place_of_words p ≡ place_at f j) where
  -- the connection that the words are, at an end point
  abbrev lsp_of : ℕ → Place → Lsp
  lsp_of endpoint x = record { endpoint = endpoint; tunnel = x.tunnel; extended = x.extended; sender = f.sender; lsp_id = x.lsp }

  pub place_taken : (endpoint key : ℕ) → p.taken ≡ 1 → endpoint ≡ f.endpoint j → key ≡ lsp_key (lsp_of endpoint (place_of_words p)) → held_keys (held_place f j) ≡ key ∷ []
  unfolding element_if
  place_taken endpoint key h at k =
      let taken : is_taken (place_at f j) ≡ true = sym (ap (λ (x : Place). is_taken x) e) ∙ eq-eqb p.taken 1 h in
      rw taken (ap (λ (n : ℕ). n ∷ []) (sym (k ∙ ap₂ (λ (n : ℕ) (x : Place). lsp_key (lsp_of n x)) at e)))

  pub place_free : (p.taken ≡ 1 → ⊥) → held_keys (held_place f j) ≡ []
  unfolding element_if
  place_free h =
      let free : is_taken (place_at f j) ≡ false = sym (ap (λ (x : Place). is_taken x) e) ∙ ne_eqb p.taken 1 h in
      rw free

-- ---- place after place

pub keys_none : (f : Four) → held_keys (below (held_place f) 0) ≡ []
keys_none f = rw (below_none (held_place f))

-- the keys of one place more, noted behind those of the places before, which were noted behind `s`
pub keys_turn : (f : Four) (j : ℕ) (s m n : List ℕ) → m ≡ s ++ held_keys (below (held_place f) j) → n ≡ m ++ held_keys (held_place f j)
    → n ≡ s ++ held_keys (below (held_place f) (j + 1))
keys_turn f j s m n p q =
    rw (q, p, below_more (held_place f) j, map-append (λ x. lsp_key x.lsp) (below (held_place f) j) (held_place f j)) (append_assoc s _ _)

-- ---- a call: its two IDs, its request, then its places

module _ (c : Call) (h : CallHead) (f : Four) (head : h ≡ head_of c) (four : Alike f (call_four c)) where
  pub call_keys_lem : (short long : ℕ) (s a b d r : List ℕ) → short ≡ short_key h.endpoint h.sender h.id.0 → long ≡ long_key h.endpoint h.sender c.name
      → a ≡ s ++ short ∷ [] → b ≡ a ++ long ∷ [] → d ≡ b ++ element_if (eqb h.made 1) (request_key h.endpoint h.sender h.epoch h.identifier)
      → r ≡ d ++ held_keys (held_in f) → r ≡ s ++ call_keys c
  call_keys_lem short long s a b d r x y p q m z = z ∙ rw (m, q, p, x, y, head, alike_held f (call_four c) four) (simp append_assoc)
