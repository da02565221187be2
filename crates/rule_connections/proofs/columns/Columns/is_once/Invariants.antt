-- `columns::Columns::is_once` meets its contract: after `i` turns each of the first `i` rows is compared with those before it.
use Prim.Native.Nat.{ℕ}
use mathlib.Core.Path.{◌≡◌}
use mathlib.Core.Bool.{not}
use Rattle.lists.specs.Count.{no_two}
use Rattle.table.specs.Rules.{same_lsp}
use Rattle.rule_connections.specs.Columns.{first_rows}
use Rattle.rule_connections.proofs.columns.Columns.is_once.Given as goal

abbrev pub invariant-loop-i : goal.invariant-loop-i
invariant-loop-i l = (sender : ℕ) → not l.found ≡ no_two same_lsp (first_rows sender l.self l.i)
