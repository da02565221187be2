use native.Mathlib.Omega.{arith}
use mathlib.Core.Path.{◌≡◌, sym, ◌∙◌}
use mathlib.Core.Bool.{and-false}
use Rattle.lists.proofs.Pairs.{pairs_rest}
use Rattle.table.specs.Total.{slots}
use Rattle.table.specs.Words.{table_of}
use Rattle.rule_uniqueness.specs.Conflict.{apart_at}
use Rattle.rule_uniqueness.proofs.Names.{names_end}
use Rattle.rule_uniqueness.proofs.Conflicts.{slots_apart}
use Rattle.rule_uniqueness.proofs.ids_once.Goals as goal

pub apart_from_earlier-apart-requires : goal.apart_from_earlier-apart-requires
apart_from_earlier-apart-requires c =
    (omega (arith, c.used_below-n.ensures.0), names_end (table_of c.args.t.now) c.requires.0 c.requires.1)

pub returns : goal.returns
returns c =
    let t = table_of c.args.t.now in
    let n = c.used_below-n.result in
    let e : c.loop-i.i ≡ n = omega arith in
    let rest = pairs_rest (apart_at t) n slots c.used_below-n.ensures.0 (λ i j l m. rw (c.used_below-n.ensures.1 i l m, and-false _)) in
    rw e at c.loop-i.invariant ∙ sym rest ∙ slots_apart _ _ slots _ _ _
