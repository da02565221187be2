-- `names::name_byte` meets its contract.
use Prim.Native.Nat.{ℕ, ◌%◌}
use mathlib.Core.Path.{sym, ap, ◌∙◌}
use lib.ListN.{get_or}
use Rattle.table.specs.Words.{bytes_of}
use Rattle.table.proofs.Cells.{call_at_lem}
use Rattle.table_words.proofs.NameBytes.{name_byte_at}
use Rattle.table_words.proofs.names.name_byte.Goals as goal

pub returns : goal.returns
returns c =
    let w = c.args.t.now in
    rw (call_at_lem w c.args.i c.requires.0)
    (c.byte_of.ensures ∙ ap (λ (x : ℕ). get_or (bytes_of x) (c.args.k % 4) 0) c.word.ensures ∙ sym (name_byte_at w _ c.args.k c.requires.1))
