-- `columns::Columns::is_repeated` meets its contract: after `j` turns row i is compared with the first `j`.
use Prim.Native.Nat.{ℕ}
use mathlib.Core.Path.{◌≡◌}
use Rattle.lists.specs.Count.{has}
use Rattle.table.specs.Rules.{same_lsp}
use Rattle.rule_connections.specs.Columns.{row_in, first_rows}
use Rattle.rule_connections.proofs.columns.Columns.is_repeated.Given as goal

abbrev pub invariant-loop-j : goal.invariant-loop-j
invariant-loop-j l = (sender : ℕ) → l.found ≡ has (λ z. same_lsp z (row_in sender l.self l.i)) (first_rows sender l.self l.j)
