-- Connections of one sender in columns, a row for each: words of private contracts only. No rule cites these.
use Rattle.std.specs.Prelude.{ℕ, List, [], ◌∷◌, map, get_or}
use Rattle.lists.specs.Below.{below}
use Rattle.table.specs.Lists.{Lsp, Held}

-- the connection in a row, of a sender
unfoldable pub row_at : ℕ → List ℕ → List ℕ → List ℕ → List ℕ → ℕ → Lsp
row_at sender endpoints tunnels extended lsps i = record {
  endpoint = get_or endpoints i 0;
  tunnel = get_or tunnels i 0;
  extended = get_or extended i 0;
  sender = sender;
  lsp_id = get_or lsps i 0;
}

-- those in the first n rows
unfoldable pub rows : ℕ → List ℕ → List ℕ → List ℕ → List ℕ → ℕ → List Lsp
rows sender endpoints tunnels extended lsps n = below (λ i. row_at sender endpoints tunnels extended lsps i ∷ []) n

-- connections, whatever Call IDs they stand under
abbrev pub lsps_of : List Held → List Lsp
lsps_of l = map (λ x. x.lsp) l
