-- `header::bad_message_length` meets its contract: the length field is read only where there is a header.
use borrow.Author.Tests.{lt-ltb, le-ltb}
use Rattle.messages.specs.Header.{bad_message_length}
use Rattle.messages.proofs.header.bad_message_length.Goals as goal

pub returns-then-n-lt8 : goal.returns-then-n-lt8
unfolding bad_message_length
returns-then-n-lt8 c = simp (lt-ltb _ _ c.if-n-lt8.true)

pub returns : goal.returns
unfolding bad_message_length
returns c = simp (le-ltb _ _ c.if-n-lt8.false, c.from-len.ensures, c.get16.ensures)
