use native.Mathlib.Omega.{arith}
use mathlib.Core.Path.{◌≡◌}
use Rattle.table.specs.Words.{table_of}
use Rattle.checkpoint_read.proofs.Turns.{cells_start, connections_turn, connections_none}
use Rattle.checkpoint_read.proofs.filling.with_connections.Goals as goal

pub loop-k-init : goal.loop-k-init
loop-k-init c =
    let a = c.args in
    (connections_none _ _, cells_start a.f a.c.bytes.now _ (table_of a.t.now) c.requires.0 c.requires.1 c.note_calls.ensures c.requires.2)

pub loop-k-preserved : goal.loop-k-preserved
loop-k-preserved c =
    let e = c.keep_connection.ensures in
    (connections_turn (table_of c.args.t.now) c.args.c.bytes.now c.loop-k.k (table_of c.loop-k.t) _ c.loop-k.invariant.0 e.0, e.1)

pub returns : goal.returns
returns c =
    let e : c.loop-k.k ≡ c.args.c.connections = omega arith in
    rw e at c.loop-k.invariant.0
