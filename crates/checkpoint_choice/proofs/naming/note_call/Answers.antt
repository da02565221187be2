-- `naming::note_call` meets its contract: the record is noted where none before it has its pair and short ID.
use native.Mathlib.Omega.{arith}
use mathlib.Core.Path.{refl, sym, ap, ◌∙◌}
use Rattle.checkpoint_choice.specs.Chained.{named_as}
use Rattle.checkpoint_choice.proofs.StandIn.{noted_first, noted_later}
use Rattle.checkpoint_choice.proofs.naming.note_call.Goals as goal

pub find-requires : goal.find-requires
find-requires c =
    record { calls = c.args.i; noted = c.requires.0 }

pub returns-in-Some : goal.returns-in-Some
returns-in-Some c =
    let a = c.args in
    let is = c.name_of-x.ensures ∙ ap named_as c.call.ensures in
    noted_later a.f a.c.bytes.now a.heads.now a.links.now a.i _ c.requires.0 (omega (arith, a.c.size)) (omega (arith, a.c.calls_is)) (rw is at (c.in-Some.ensures.found a.i c.requires.0)) (λ e. omega arith)

pub returns : goal.returns
returns c =
    let a = c.args in
    let is = c.name_of-x.ensures ∙ ap named_as c.call.ensures in
    let none = rw is at (c.in_default.ensures.found a.i c.requires.0) in
    noted_first a.f a.c.bytes.now a.heads.now a.links.now a.i 0 c.requires.0 (omega (arith, a.c.size)) (omega (arith, a.c.calls_is)) (sym none) refl _ (rw is at c.short_chain-m.ensures.0) c.short_chain-m.ensures.1
