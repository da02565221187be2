-- `read::long_size` meets its contract: the name's length is the byte that was read.
use Prim.Native.Nat.{◌+◌}
use mathlib.Core.Path.{ap, ◌∙◌}
use Rattle.numbers.specs.Search.{unpadded}
use Rattle.messages.proofs.read.long_size.Goals as goal

pub returns : goal.returns
returns c =
    let a = c.args in
    c.unpadded.ensures ∙ ap (unpadded a.s.now (a.attribute + 8)) (c.from-name.ensures)
