-- `chaffmoor_handle`: what `handle` gives, with the answer's number.
use Rattle.answers.specs.Answers.{answer_number}
use mathlib.Core.Path.{ap, ◌∙◌}
use Rattle.chaffmoor.proofs.chaffmoor_handle.Goals as goal

pub returns : goal.returns
returns c =
    let e = c.handle-r.ensures in
    (c.from.ensures ∙ ap answer_number e.answer, e.length, e.closed, e.table, e.reply, e.closings)
