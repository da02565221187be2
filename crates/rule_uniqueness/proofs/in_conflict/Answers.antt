-- `in_conflict` meets its contract: one pair, and the same short ID, name or request.
use mathlib.Core.Path.{refl}
use Rattle.table.specs.Lists.{call_at}
use Rattle.table.specs.Words.{table_of}
use Rattle.table_words.proofs.Padded.{name_room}
use Rattle.rule_uniqueness.specs.Conflict.{entry_at}
use Rattle.rule_uniqueness.proofs.Names.{names_whole}
use Rattle.rule_uniqueness.proofs.Conflicts.{one_pair}
use Rattle.rule_uniqueness.proofs.in_conflict.Goals as goal

pub returns : goal.returns
returns c =
    let w = c.args.t.now in
    let p = c.requires in
    let x = call_at (table_of w) c.args.j in
    let y = call_at (table_of w) c.args.i in
    let e = entry_at (table_of w) c.args.j in
    let f = entry_at (table_of w) c.args.i in
    let a = p.2 c.args.j p.0 in
    let b = p.2 c.args.i p.1 in
    let long = name_room w c.args.j p.0 in
    let wide = name_room w c.args.i p.1 in
    rw (c.eq.ensures, c.same_names.ensures, c.call_head-c.ensures, c.call_head-d.ensures)
    (one_pair e f _ _ _ refl refl (names_whole x.name y.name x.size y.size long wide a.0 b.0 a.1 b.1))
