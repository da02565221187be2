-- What a loop over slots or customers finds: after each turn it knows of one place more.
-- Assumes nothing.
use Prim.Native.Nat.{ℕ, ◌+◌, ◌≤◌, ◌<◌}
use mathlib.Core.Path.{◌≡◌, sym}
use mathlib.Core.List.{List, []}
use mathlib.Core.Bool.{Bool, false, cond, ◌&&◌, ◌||◌}
use Rattle.lists.specs.Count.{count_if, has}
use Rattle.lists.specs.Below.{list_if, below}
use Rattle.lists.proofs.Below.{below_rest, count_none, count_turns, has_none, has_turns}
use Rattle.table.specs.Lists.{Held}
use Rattle.table.specs.Rules.{is_lsp}
use Rattle.spec_changes.specs.Connections.{same_four}
use Rattle.spec_calls.specs.PathRules.{under_other}

module _ (f : ℕ → List Held) (x : Held) where
  -- whether the first n lists have a connection under another Call ID, whether they have it, and how many of its four
  -- they have
  pub record Looked (n : ℕ) (o h : Bool) (m : ℕ) : Type 0 where
    pub other : o ≡ has (under_other x) (below f n)
    pub held : h ≡ has (is_lsp x.lsp) (below f n)
    pub four : m ≡ count_if (same_four x) (below f n)

  pub looked_none : Looked 0 false false 0
  looked_none = record { other = sym (has_none f (under_other x)); held = sym (has_none f (is_lsp x.lsp)); four = sym (count_none f (same_four x)) }

  pub looked_turn : {n four m : ℕ} {other held o h : Bool} (used : Bool) (l : List Held) → f n ≡ list_if used l → Looked n other held four
      → o ≡ (used && has (under_other x) l) → h ≡ (used && has (is_lsp x.lsp) l) → m ≡ cond used (count_if (same_four x) l) 0
      → Looked (n + 1) (other || o) (held || h) (four + m)
  looked_turn {n} {four} {m} {other} {held} {o} {h} used l e k oe he me = record {
    other = has_turns f (under_other x) n other o used l e k.other oe;
    held = has_turns f (is_lsp x.lsp) n held h used l e k.held he;
    four = count_turns f (same_four x) n four m used l e k.four me;
  }

  pub looked_rest : {n four : ℕ} {other held : Bool} (m : ℕ) → n ≤ m → ((i : ℕ) → n ≤ i → i < m → f i ≡ []) → Looked n other held four → Looked m other held four
  looked_rest {n} m l free k = let e = below_rest f n m l free in record { other = rw e k.other; held = rw e k.held; four = rw e k.four }
