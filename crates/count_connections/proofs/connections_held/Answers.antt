-- `connections_held` meets its contract: the two counts, added.
use native.Mathlib.Omega.{arith}
use mathlib.Core.Path.{sym, ◌∙◌}
use mathlib.Core.Bool.{true}
use Rattle.lists.specs.Below.{below}
use Rattle.lists.proofs.Count.{count_append, count_all}
use Rattle.table.specs.Total.{slots}
use Rattle.table.specs.Lists.{held_at, standalone_at, held}
use Rattle.table.specs.Words.{table_of}
use Rattle.count_connections.proofs.connections_held.Goals as goal

pub returns : goal.returns
returns c =
    let t = table_of c.args.t.now in (
      rw (c.held_standalone.ensures.0, c.held_under_calls.ensures.0)
          (sym (count_append (λ x. true) (below (held_at t) slots) (below (standalone_at t) 8)) ∙ count_all (held t)),
      omega arith,
    )
