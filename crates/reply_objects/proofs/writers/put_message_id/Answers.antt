-- `writers::put_message_id` meets its contract: it is what `put_identifier` ensures at this class and these flags.
use Rattle.reply_objects.proofs.writers.put_message_id.Goals as goal

pub returns : goal.returns
returns c = c.put_identifier.ensures
