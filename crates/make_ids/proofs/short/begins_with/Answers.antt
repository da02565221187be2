-- `short::begins_with` meets its contract.
use Rattle.make_ids.proofs.short.begins_with.Goals as goal

pub returns : goal.returns
returns c =
    rw (c.name_word.ensures, c.name_word-2.ensures, c.name_word-3.ensures, c.name_word-4.ensures)
