-- `keep_standalone` meets its contract.
use native.Mathlib.Omega.{arith}
use mathlib.Core.Path.{◌≡◌, ap, ◌∙◌}
use borrow.Author.Tests.{eqb-true}
use Rattle.lists.specs.Count.{count_if}
use Rattle.lists.specs.Below.{below}
use Rattle.lists.proofs.Count.{has_true}
use Rattle.table.specs.Table.{Table}
use Rattle.table.specs.Lists.{Held, standalone_at, held}
use Rattle.table.specs.Words.{table_of}
use Rattle.spec_changes.specs.Connections.{same_four}
use Rattle.spec_changes.proofs.Last.{listed_record}
use Rattle.spec_changes.proofs.Tables.{added_standalone_lem}
use Rattle.spec_calls.specs.PathRules.{held_by}
use Rattle.find_connection.specs.declared.standalone.StandaloneLook.{StandaloneLook}
use Rattle.find_connection.specs.Looks.{standalone_look_of}
use Rattle.checkpoint_connections.proofs.Fits.{unfit_unlisted, unfit_held, unfit_alone, fits_alone, held_most}
use Rattle.checkpoint_connections.proofs.InCells.{goes_on}
use Rattle.checkpoint_connections.proofs.keep_standalone.Goals as goal

-- how many of its four the look counts
four_of_lem : (t : Table) (x : Held) (l : StandaloneLook) → l ≡ standalone_look_of t x → l.four ≡ count_if (same_four x) (below (standalone_at t) 8)
unfolding standalone_look_of
four_of_lem t x l e = ap (λ (k : StandaloneLook). k.four) e

pub returns-in_default : goal.returns-in_default
returns-in_default c =
    (rw (unfit_unlisted (table_of c.args.t.now) (held_by c.args.x) c.in_default.ensures), c.requires.0)

pub seek-requires : goal.seek-requires
seek-requires c =
    (omega (arith, c.requires.0.held.most, held_most (table_of c.args.t.now)), c.requires.0.held.within)

pub returns-in_default-seek : goal.returns-in_default-seek
returns-in_default-seek c =
    let t = table_of c.args.t.now in
    (rw (unfit_held t (held_by c.args.x) (has_true _ (held t) (c.in_default-seek.ensures (held t) c.requires.0.held))), c.requires.0)

pub returns-then-look-ge4 : goal.returns-then-look-ge4
returns-then-look-ge4 c =
    (rw (unfit_alone (table_of c.args.t.now) (held_by c.args.x) (omega (arith, four_of_lem _ _ _ c.look_standalone-look.ensures))), c.requires.0)

pub add_standalone-requires : goal.add_standalone-requires
add_standalone-requires c =
    let m = c.in-Some.ensures in
    omega (arith, m.1.place, (listed_record (table_of c.args.t.now) c.args.x.lsp.sender m.0).inside)

pub returns : goal.returns
returns c =
    let a = c.args in
    let t = table_of a.t.now in
    let x = held_by a.x in
    let q = c.in-Some-seek.ensures (held t) c.requires.0.held in
    let m = c.in-Some.ensures in
    let fits = fits_alone t x c.requires.0.rules (eqb-true _ 0 c.requires.3) m.0 q.new (omega (arith, four_of_lem _ _ _ c.look_standalone-look.ensures)) in
    let e = c.add_standalone.ensures ∙ added_standalone_lem t x c.in-Some.m.place c.requires.3 m.1.place in
    (rw fits e, rw e (goes_on a.f a.c.bytes.now a.kept.now a.held.now t x a.k c.in-Some-seek.at c.requires.0 a.c.all_bytes c.requires.2 (omega (arith, a.c.connections_is)) q.free q.inside fits))
