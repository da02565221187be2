-- The words of a message add up to FFFF once its checksum is filled in.
-- Assumes nothing.
use Rattle.numbers.proofs.Sum.{filled_sum}
use Rattle.reply_objects.specs.Header.{checksum_of, with_checksum}
use Rattle.reply_objects.specs.Claims.{FilledAddsUp}

pub filled_adds_up : FilledAddsUp
unfolding checksum_of with_checksum
filled_adds_up = filled_sum
