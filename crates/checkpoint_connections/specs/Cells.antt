-- What the table holds, in cells: each call and each connection stands in the first cell that was free from its own place
-- on. So the cells from that place on, up to a free one, are all that have to be looked at. Words of contracts only: no
-- rule cites these.
use Rattle.std.specs.Prelude.{ℕ, Option, MatchOption, ◌+◌, ◌*◌, ◌-◌, ◌<◌, ◌≤◌, ◌≡◌, List, Bool, true, false, not, ◌&&◌, eqb, length, get_or}
use Rattle.lists.specs.Count.{count_if, has}
use Rattle.table.specs.Table.{Table}
use Rattle.table.specs.Total.{slots}
use Rattle.table.specs.Word.{is_used}
use Rattle.table.specs.Lists.{call_at, ids_of, Entry, entries, Lsp, Held, held}
use Rattle.table.specs.Rules.{is_lsp, rules_hold}
use Rattle.spec_changes.specs.Shape.{Shape}
use Rattle.spec_changes.specs.Connections.{is_under, is_call_of}
use Rattle.spec_checkpoint.specs.Layout.{connections_in, connection_record}
use Rattle.checkpoint_chains.specs.declared.Factors.{Factors}
use Rattle.checkpoint_chains.specs.Spread.{spread_over}

-- ---- cells

-- 0 is a free cell
abbrev pub is_filled : ℕ → Bool
is_filled v = not (eqb v 0)

-- no cell from m on, and before r, is free
abbrev pub FilledFrom : List ℕ → ℕ → ℕ → Type 0
FilledFrom cells m r = (j : ℕ) → m ≤ j → j < r → get_or cells j 0 ≡ 0 → ⊥

-- r is the first free cell from m on
pub record FirstFree (cells : List ℕ) (m r : ℕ) : Type 0 where
  pub from : m ≤ r
  pub filled : FilledFrom cells m r
  pub free : get_or cells r 0 ≡ 0

-- a cell from m on shows what is looked for, and none before it is free
pub record ShownFrom (shows : ℕ → Bool) (cells : List ℕ) (m : ℕ) : Type 0 where
  pub at : ℕ
  pub from : m ≤ at
  pub filled : FilledFrom cells m (at + 1)
  pub shown : shows (get_or cells at 0) ≡ true

-- ---- calls: a cell has a slot, counted from 1

-- the place of a connection's call
abbrev pub call_place : Factors → Held → ℕ
call_place f x = spread_over f x.lsp.endpoint x.lsp.sender x.call 0

-- the call of a connection, in a slot
abbrev pub is_call_in : Held → ℕ → Entry → Bool
is_call_in x i e = eqb i e.slot && is_call_of x e

-- the calls of a list stand in cells, at most n of which are filled
pub record CallsInCells (f : Factors) (calls : List Entry) (cells : List ℕ) (n : ℕ) : Type 0 where
  pub sized : length cells ≡ 2304
  pub most : count_if is_filled cells ≤ n
  pub shown : (x : Held) → 0 < count_if (is_call_of x) calls → ShownFrom (λ v. has (is_call_in x (v - 1)) calls) cells (call_place f x)

-- a connection's call is open in slot i
pub record CallIn (t : Table) (x : Held) (i : ℕ) : Type 0 where
  pub inside : i < slots
  pub used : is_used t.occupied i ≡ true
  pub own : is_under (ids_of (call_at t i)) x ≡ true

-- the slot of a connection's call; none where the call is not open
abbrev pub CallFound : Table → Held → Option ℕ → Type 0
CallFound t x r = MatchOption r (has (is_call_of x) (entries t) ≡ false) (λ i. CallIn t x i)

-- ---- connections: a cell has the number of a checkpoint's record, counted from 1

abbrev pub lsp_place : Factors → Lsp → ℕ
lsp_place f x = spread_over f x.endpoint x.sender (x.tunnel * 65536 + x.lsp_id) x.extended

-- the connections of a list stand in cells, one cell for each, and nothing else does
pub record HeldInCells (f : Factors) (s : List ℕ) (l : List Held) (cells : List ℕ) : Type 0 where
  pub sized : length cells ≡ 3072
  pub most : count_if is_filled cells ≤ count_if (λ y. true) l
  pub within : (j : ℕ) → get_or cells j 0 ≤ connections_in s
  pub only : (j : ℕ) → (get_or cells j 0 ≡ 0 → ⊥) → 0 < count_if (is_lsp (connection_record s (get_or cells j 0 - 1)).lsp) l
  pub shown : (x : Lsp) → 0 < count_if (is_lsp x) l → ShownFrom (λ v. is_lsp x (connection_record s (v - 1))) cells (lsp_place f x)

-- a connection is not held, and cell j is the one for it
pub record CellFor (f : Factors) (l : List Held) (cells : List ℕ) (x : Lsp) (j : ℕ) : Type 0 where
  pub new : has (is_lsp x) l ≡ false
  pub free : FirstFree cells (lsp_place f x) j
  pub inside : j < 3072

-- the cell for a connection; none where it is held
abbrev pub SoughtIn : Factors → List Held → List ℕ → Lsp → Option ℕ → Type 0
SoughtIn f l cells x r = MatchOption r (has (is_lsp x) l ≡ true) (λ j. CellFor f l cells x j)

-- a table that keeps the rules, its calls and its connections in cells
pub record TableInCells (f : Factors) (s call_cells held_cells : List ℕ) (t : Table) : Type 0 where
  pub shape : Shape t
  pub rules : rules_hold t ≡ true
  pub calls : CallsInCells f (entries t) call_cells slots
  pub held : HeldInCells f s (held t) held_cells
