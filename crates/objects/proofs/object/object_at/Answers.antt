-- `object::object_at` meets its contract: the length is the 16-bit number that was read.
use Rattle.objects.proofs.object.object_at.Goals as goal

pub returns : goal.returns
returns c = rw (c.from.ensures, c.get16.ensures)
