-- What writing a checkpoint promises (02, A13): of which tables, where there is room, and how much it
-- takes.
-- Assumes nothing.
use lib.ListN.{length}
use borrow.Author.Tests.{lt-ltb, le-ltb}
use Rattle.numbers.specs.Buffer.{at_front}
use Rattle.lists.specs.Below.{element_if, list_if, below}
use Rattle.table.specs.Word.{is_used}
use Rattle.table.specs.Zeros.{no_customer, empty_table}
use Rattle.table.proofs.Fresh.{empty_holds}
use Rattle.spec_changes.proofs.Words.{words_shape, words_names}
use Rattle.spec_changes.proofs.Told.{rules_kept}
use Rattle.spec_checkpoint.specs.Layout.{checkpoint_of}
use Rattle.spec_checkpoint.specs.Restored.{written}
use Rattle.spec_checkpoint.specs.Claims.{WordsWritable, ExactFit, LeastCopy, CopySize}
use Rattle.spec_checkpoint.proofs.Written.{checkpoint_size_lem}

pub words_writable : WordsWritable
words_writable w fits h = record { shape = words_shape w fits; names = words_names w; rules = h }

pub least_copy : LeastCopy
unfolding written at_front checkpoint_of element_if list_if below is_used empty_table no_customer
least_copy = (rw empty_holds, rw empty_holds)

pub exact_fit : ExactFit
unfolding written
exact_fit t buffer h =
    (λ l. rw (h, le-ltb (length buffer) (length (checkpoint_of t)) l), λ l. rw (h, lt-ltb (length buffer) (length (checkpoint_of t)) l))

pub copy_size : CopySize
copy_size t w = checkpoint_size_lem t (rules_kept t w.rules) w.names
