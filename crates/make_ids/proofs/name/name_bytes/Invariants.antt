-- `name::name_bytes` meets its contract: the bytes so far are those of the words.
use mathlib.Core.Path.{◌≡◌}
use lib.ListN.{get_or}
use Rattle.lists.proofs.Filled.{filled}
use Rattle.make_ids.proofs.Words.{byte_at}
use Rattle.make_ids.proofs.name.name_bytes.Given as goal

abbrev pub invariant-loop-k : goal.invariant-loop-k
invariant-loop-k l = (l.name ≡ filled (byte_at l.words) (λ i. get_or l.initial.name i 0) 32 l.k)
