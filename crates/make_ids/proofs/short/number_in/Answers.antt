-- `short::number_in` meets its contract: by the size, by the first four words, by the fifth.
use Rattle.make_ids.proofs.Words.{another_size, another_start, number_at}
use mathlib.Core.Path.{ap}
use mathlib.Core.Bool.{not}
use Rattle.make_ids.proofs.short.number_in.Goals as goal

pub returns-then-not-is_size : goal.returns-then-not-is_size
returns-then-not-is_size c endpoint sender n d =
    another_size endpoint sender _ d c.args.t.now _ c.requires (rw (c.is_size.ensures, c.call_head-c.ensures) at (ap not c.if-not-is_size.true)) n

pub returns-then-not-begins_with : goal.returns-then-not-begins_with
returns-then-not-begins_with c endpoint sender n d =
    another_start endpoint sender _ d c.args.t.now _ c.requires (rw (c.is_size.ensures, c.call_head-c.ensures) at (ap not c.if-not-is_size.false)) (rw c.begins_with.ensures at (ap not c.if-not-begins_with.true)) n

pub returns : goal.returns
returns c endpoint sender n d =
    number_at endpoint sender _ d c.args.t.now _ c.requires (rw (c.is_size.ensures, c.call_head-c.ensures) at (ap not c.if-not-is_size.false)) _ (rw c.begins_with.ensures at (ap not c.if-not-begins_with.false)) (rw c.name_word.ensures at c.number_of.ensures) n
