-- `calls::call_head` meets its contract: the slot's call is that of its words.
use mathlib.Core.Path.{sym, ap}
use Rattle.table_words.specs.Heads.{head_of}
use Rattle.table.proofs.Cells.{call_at_lem}
use Rattle.table_words.proofs.calls.call_head.Goals as goal

pub returns : goal.returns
returns c =
    rw (
      c.word.ensures,
      c.word-2.ensures,
      c.word-3.ensures,
      c.word-4.ensures,
      c.word-5.ensures,
      c.word-6.ensures,
      c.word-7.ensures,
    )
    (sym (ap head_of (call_at_lem c.args.t.now c.args.i c.requires)))
