-- `fours::place_words` meets its contract: the place's four words.
use mathlib.Core.Path.{sym}
use Rattle.table.proofs.Cells.{place_at_lem}
use Rattle.table_words.proofs.fours.place_words.Goals as goal

pub returns : goal.returns
returns c =
    rw (c.word.ensures, c.word-2.ensures, c.word-3.ensures)
    (sym (place_at_lem c.args.t.now c.args.f.places c.args.j c.requires))
