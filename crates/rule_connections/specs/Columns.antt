-- The rows of the columns: words of private contracts only. No rule cites these.
use Rattle.std.specs.Prelude.{ℕ, List}
use Rattle.table.specs.Lists.{Lsp}
use Rattle.rule_connections.specs.declared.columns.Columns.{Columns}
use Rattle.rule_connections.specs.Rows.{row_at, rows}

abbrev pub row_in : ℕ → Columns → ℕ → Lsp
row_in sender c i = row_at sender c.endpoints c.tunnels c.extended c.lsps i

-- the first n, and all
abbrev pub first_rows : ℕ → Columns → ℕ → List Lsp
first_rows sender c n = rows sender c.endpoints c.tunnels c.extended c.lsps n

abbrev pub rows_in : ℕ → Columns → List Lsp
rows_in sender c = first_rows sender c c.count
