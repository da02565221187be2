-- `walk::is_like` meets its contract: the header is read only where an object as long has room.
use borrow.Author.Tests.{lt-leb, le-leb}
use Rattle.objects.specs.Run.{is_like}
use Rattle.objects.proofs.walk.is_like.Goals as goal

pub returns-then-s-at : goal.returns-then-s-at
unfolding is_like
returns-then-s-at c = simp (lt-leb _ _ c.if-s-at.true)

pub returns : goal.returns
unfolding is_like
returns c = simp (le-leb _ _ c.if-s-at.false, c.from.ensures, c.get16.ensures)
