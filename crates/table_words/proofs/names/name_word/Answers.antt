-- `names::name_word` meets its contract.
use Prim.Native.Nat.{◌+◌}
use mathlib.Core.Path.{◌∙◌}
use Rattle.table.specs.Words.{call_start}
use Rattle.table.proofs.Cells.{call_at_lem}
use Rattle.table_words.proofs.NameBytes.{name_word_at}
use Rattle.table_words.proofs.names.name_word.Goals as goal

pub returns : goal.returns
returns c =
    let w = c.args.t.now in
    rw (call_at_lem w c.args.i c.requires.0) (c.word.ensures ∙ name_word_at w (call_start c.args.i + 8) c.args.k c.requires.1)
