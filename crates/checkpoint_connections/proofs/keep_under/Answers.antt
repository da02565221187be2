-- `keep_under` meets its contract.
use native.Mathlib.Omega.{arith}
use mathlib.Core.Path.{ap, ◌∙◌}
use mathlib.Core.Bool.{true}
use Rattle.lists.specs.Count.{count_if}
use Rattle.lists.proofs.Count.{has_true}
use Rattle.table.specs.Lists.{call_at, Held, call_four, held}
use Rattle.table.specs.Words.{table_of}
use Rattle.table_words.proofs.Alike.{alike_held}
use Rattle.spec_calls.specs.PathRules.{held_by}
use Rattle.checkpoint_connections.proofs.Fits.{unfit_missing, unfit_there, unfit_held, fits_found, added_found, held_most}
use Rattle.checkpoint_connections.proofs.InCells.{goes_on}
use Rattle.checkpoint_connections.proofs.keep_under.Goals as goal

pub returns-in_default : goal.returns-in_default
returns-in_default c =
    (rw (unfit_missing (table_of c.args.t.now) (held_by c.args.x) c.requires.3 c.in_default.ensures), c.requires.0)

pub returns-then-taken_in-ge4 : goal.returns-then-taken_in-ge4
returns-then-taken_in-ge4 c =
    let t = table_of c.args.t.now in
    let slot = c.in-Some.slot in
    let e = alike_held _ (call_four (call_at t slot)) c.call_four.ensures in
    (rw (unfit_there t (held_by c.args.x) slot c.in-Some.ensures (omega (arith, c.taken_in.ensures.0, ap (count_if (λ (y : Held). true)) e))), c.requires.0)

pub seek-requires : goal.seek-requires
seek-requires c =
    (omega (arith, c.requires.0.held.most, held_most (table_of c.args.t.now)), c.requires.0.held.within)

pub returns-in_default-seek : goal.returns-in_default-seek
returns-in_default-seek c =
    let t = table_of c.args.t.now in
    (rw (unfit_held t (held_by c.args.x) (has_true _ (held t) (c.in_default-seek.ensures (held t) c.requires.0.held))), c.requires.0)

pub returns : goal.returns
returns c =
    let a = c.args in
    let t = table_of a.t.now in
    let x = held_by a.x in
    let slot = c.in-Some.slot in
    let q = c.in-Some-seek.ensures (held t) c.requires.0.held in
    let four = alike_held _ (call_four (call_at t slot)) c.call_four.ensures in
    let fits = fits_found t x slot c.in-Some.ensures c.requires.0.rules (omega (arith, c.if-taken_in-ge4.false, c.taken_in.ensures.0, ap (count_if (λ (y : Held). true)) four)) q.new in
    let e = c.add_under.ensures ∙ added_found t x slot c.in-Some.ensures c.requires.0.rules in
    (rw fits e, rw e (goes_on a.f a.c.bytes.now a.kept.now a.held.now t x a.k c.in-Some-seek.at c.requires.0 a.c.all_bytes c.requires.2 (omega (arith, a.c.connections_is)) q.free q.inside fits))
