-- What one four says of a connection. All that stand there have sender and Call ID in common.
-- Assumes nothing.
use Prim.Native.Nat.{ℕ, ◌<◌}
use native.Mathlib.Omega.{arith}
use mathlib.Core.Path.{◌≡◌, refl, sym, ◌∙◌}
use mathlib.Core.Bool.{Bool, true, false, not, ◌&&◌, and_comm, and-false}
use lib.Dec.{eqb}
use borrow.Author.Tests.{not-true, not-false}
use Rattle.lists.specs.Count.{count_if, has}
use Rattle.lists.proofs.Count.{false_has}
use Rattle.lists.proofs.Shown.{has_shown}
use Rattle.lists.proofs.Tests.{both}
use Rattle.table.specs.Table.{Call}
use Rattle.table.specs.Lists.{ids_of, Lsp, Held, Four, place_at, is_taken, connection_at, held_in}
use Rattle.table.specs.Rules.{same_lsp, is_lsp}
use Rattle.spec_changes.specs.Connections.{same_four, is_under}
use Rattle.spec_changes.proofs.Everywhere.{none_in}
use Rattle.spec_calls.specs.PathRules.{under_other}
use Rattle.find_connection.specs.Looks.{Matched}

-- ---- whether it holds the connection

module _ (x : Lsp) (f : Four) where
  none_same : eqb x.sender f.sender ≡ false → has (is_lsp x) (held_in f) ≡ false
  unfolding same_lsp
  none_same n = false_has (is_lsp x) (held_in f) (none_in (is_lsp x) f (λ j l h. rw (n, and-false (eqb x.endpoint (f.endpoint j)))))

  -- a four that does not count, or is of another sender
  pub held_none : (used : Bool) → not (used && eqb x.sender f.sender) ≡ true → false ≡ (used && has (is_lsp x) (held_in f))
  held_none true h = sym (none_same (not-true (eqb x.sender f.sender) h))
  held_none false h = refl

  pub held_all : (used held : Bool) → not (used && eqb x.sender f.sender) ≡ false → held ≡ has (is_lsp x) (held_in f) → held ≡ (used && has (is_lsp x) (held_in f))
  held_all used held h e = rw (both used (eqb x.sender f.sender) (not-false _ h)).0 e

-- ---- both

module _ (x : Held) (f : Four) where
  -- under another Call ID: the one that all of the four have
  other_held : has (under_other x) (held_in f) ≡ (has (is_lsp x.lsp) (held_in f) && not (eqb x.call f.call))
  other_held =
      let own = not (eqb x.call f.call) in
      has_shown (λ j. is_taken (place_at f j)) (connection_at f) (under_other x) (is_lsp x.lsp) own 4 (λ j. and_comm (is_lsp x.lsp (connection_at f j)) own)
      ∙ and_comm own (has (is_lsp x.lsp) (held_in f))

  -- a four that does not count, or is of another sender
  pub match_none : (used : Bool) → not (used && eqb x.lsp.sender f.sender) ≡ true → Matched used x (held_in f) false false 0
  match_none true h =
      let none = held_none x.lsp f true h in
      let n = not-true (eqb x.lsp.sender f.sender) h in
      (sym (other_held ∙ rw (sym none)), none, sym (none_in (same_four x) f (λ j l g. rw (n, and-false (eqb x.call f.call)))), omega arith)
  match_none false h = (refl, refl, refl, omega arith)

  pub match_all : (used held own : Bool) (four : ℕ) → not (used && eqb x.lsp.sender f.sender) ≡ false
      → held ≡ has (is_lsp x.lsp) (held_in f) → own ≡ eqb x.call f.call → four ≡ count_if (same_four x) (held_in f) → four < 5
      → Matched used x (held_in f) (held && not own) held four
  match_all used held own four h e o c l =
      rw ((both used (eqb x.lsp.sender f.sender) (not-false _ h)).0, e, o) (sym other_held, refl, c, omega arith)

-- nor is the call of such a slot the connection's
pub named_none : (x : Held) (c : Call) (used : Bool) → not (used && eqb x.lsp.sender c.sender) ≡ true → false ≡ (used && is_under (ids_of c) x)
named_none x c true h = rw (not-true (eqb x.lsp.sender c.sender) h, and-false (eqb x.call c.id && eqb x.lsp.endpoint c.endpoint))
named_none x c false h = refl
