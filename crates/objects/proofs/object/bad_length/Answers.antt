-- `object::bad_length` meets its contract: the length is read only where there is room for a header.
use borrow.Author.Tests.{lt-ltb, le-ltb}
use Rattle.objects.specs.Item.{bad_length}
use Rattle.objects.proofs.object.bad_length.Goals as goal

pub returns-then-left-lt4 : goal.returns-then-left-lt4
unfolding bad_length
returns-then-left-lt4 c = simp (lt-ltb _ _ c.if-left-lt4.true)

pub returns : goal.returns
unfolding bad_length
returns c = simp (le-ltb _ _ c.if-left-lt4.false, c.from-len.ensures, c.get16.ensures)
