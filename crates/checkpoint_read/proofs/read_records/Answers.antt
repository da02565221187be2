-- `read_records` meets its contract: the callees' promises, one put into the other.
use mathlib.Core.Path.{ap, ◌∙◌}
use Rattle.table.specs.Rules.{holds, slots_within_total, rules_hold}
use Rattle.table.specs.Words.{table_of}
use Rattle.table.proofs.Within.{rules_within}
use Rattle.checkpoint_read.proofs.Turns.{calls_rules, calls_shape, calls_bare, connections_within}
use Rattle.checkpoint_read.proofs.Answered.{read_is}
use Rattle.checkpoint_read.proofs.read_records.Goals as goal

pub with_connections-requires : goal.with_connections-requires
with_connections-requires c =
    let s = c.args.c.bytes.now in
    let fresh = table_of c.args.t.now in
    let e = c.with_calls.ensures in
    (rw e (calls_shape fresh s c.requires.2 c.args.c.calls), rw e (calls_rules fresh s c.requires.0 c.args.c.calls), rw e (calls_bare fresh s c.requires.2 c.requires.3 c.args.c.calls))

pub open_calls-requires : goal.open_calls-requires
open_calls-requires c =
    let s = c.args.c.bytes.now in
    let fresh = table_of c.args.t.now in
    ap (λ t. holds slots_within_total t) c.with_connections.ensures
    ∙ connections_within _ s (rules_within _ (ap rules_hold c.with_calls.ensures ∙ calls_rules fresh s c.requires.0 c.args.c.calls)) c.args.c.connections

pub returns : goal.returns
returns c =
    let a = c.args in
    read_is (table_of a.t.now) _ _ a.c.bytes.now a.c.calls a.c.connections _ _ (record { calls = a.c.calls_is; connections = a.c.connections_is; size = a.c.size }) c.with_calls.ensures c.with_connections.ensures
    (rw c.open_calls.ensures at c.saturating_sub.ensures) (rw c.connections_held.ensures.0 at c.saturating_sub-2.ensures)
