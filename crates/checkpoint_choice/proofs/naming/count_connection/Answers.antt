-- `naming::count_connection` meets its contract.
use mathlib.Core.Path.{ap, ◌∙◌, sym}
use Rattle.spec_checkpoint.specs.Layout.{calls_in}
use Rattle.checkpoint_choice.specs.Chained.{counted, stand_in_named}
use Rattle.checkpoint_choice.proofs.Named.{counted_some, counted_none}
use Rattle.checkpoint_choice.proofs.naming.count_connection.Goals as goal

pub find-requires : goal.find-requires
find-requires c =
    record { calls = calls_in c.args.c.bytes.now; noted = c.requires.0 }

pub returns-in-Some : goal.returns-in-Some
returns-in-Some c =
    let n = calls_in c.args.c.bytes.now in
    let is = ap (λ x. stand_in_named c.args.c.bytes.now n x) c.connection-m.ensures in
    counted_some c.args.counts.now c.in-Some.i ∙ ap (λ e. counted c.args.counts.now e) (c.in-Some.ensures.found n c.requires.0 ∙ is)

pub returns-in_default : goal.returns-in_default
returns-in_default c =
    let n = calls_in c.args.c.bytes.now in
    let is = ap (λ x. stand_in_named c.args.c.bytes.now n x) c.connection-m.ensures in
    sym (counted_none c.args.counts.now) ∙ ap (λ e. counted c.args.counts.now e) (sym (c.in_default.ensures.found n c.requires.0) ∙ is)
