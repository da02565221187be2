-- What a writer promises.
use Rattle.std.specs.Prelude.{ℕ, ◌<◌, ◌≡◌, List, length}
use Rattle.numbers.specs.Buffer.{at_front}
use Rattle.table.specs.Table.{Call}

-- the bytes stand at the front of what was a buffer, and the answer is how many they are
pub record Put (bytes : List ℕ) (r : ℕ) (before after : List ℕ) : Type 0 where
  pub count : r ≡ length bytes
  pub is : after ≡ at_front bytes before

-- a call whose numbers fit their bits in a record: a Call ID of 16, a mark of 1, a length of 7
pub record CallFields (c : Call) : Type 0 where
  pub id : c.id < 0x10000
  pub made : c.made < 2
  pub size : c.size < 128
