use native.Mathlib.Omega.{arith}
use mathlib.Core.Path.{◌≡◌, refl}
use Rattle.lists.specs.Below.{below}
use Rattle.lists.proofs.Below.{below_none}
use Rattle.table.specs.Total.{slots}
use Rattle.table.specs.Lists.{open_at}
use Rattle.table.specs.Words.{table_of}
use Rattle.table.proofs.Slots.{open_rest}
use Rattle.checkpoint_connections.proofs.InCells.{calls_none, calls_same}
use Rattle.checkpoint_connections.proofs.calls.note_calls.Goals as goal

pub loop-i-init : goal.loop-i-init
loop-i-init c =
    rw (below_none (open_at (table_of c.args.t.now)), c.requires) (calls_none c.args.f 0)

pub returns : goal.returns
returns c =
    let u = c.used_below-n in
    let t = table_of c.args.t.now in
    let e : c.loop-i.i ≡ u.result = omega arith in
    rw (open_rest t u.result u.ensures.0 u.ensures.1)
    (calls_same c.args.f (below (open_at t) u.result) (below (open_at t) u.result) c.loop-i.cells u.result slots (λ p. refl) u.ensures.0 (rw e at c.loop-i.invariant))
