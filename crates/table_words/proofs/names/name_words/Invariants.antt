-- `names::name_words` meets its contract: the words so far have the bytes of the name.
use lib.ListN.{take, drop}
use Rattle.table_words.proofs.NameBytes.{Spelled}
use Rattle.table_words.proofs.names.name_words.Given as goal

abbrev pub invariant-loop-k : goal.invariant-loop-k
invariant-loop-k l = Spelled (take l.n (drop l.at l.s)) l.name l.k
