-- What is claimed of the table, by name; proved in proofs/ under the same names, written with hyphens.
use Rattle.std.specs.Prelude.{◌≡◌, ℕ, ◌<◌, true, List, length, slice_index}
use Rattle.numbers.specs.BigEndian.{Bytes}
use Rattle.table.specs.Zeros.{empty_table}
use Rattle.table.specs.Rules.{rules_hold}
use Rattle.table.specs.Roster.{Accepted, roster_answer, fresh_table}
use Rattle.table.specs.Words.{word_count, table_of}

-- words and table are one to one: a contract on the table settles every word. A node that hides something in words that
-- the table does not show is none
abbrev pub WordsTold : Type 0
WordsTold = (w v : List ℕ) → ((i : ℕ) → slice_index w i < 4294967296) → ((i : ℕ) → slice_index v i < 4294967296) → table_of w ≡ table_of v
    → length w ≡ word_count → length v ≡ word_count → w ≡ v

-- the table of every accepted roster, and the empty one, keep the rules
abbrev pub FreshHolds : Type 0
FreshHolds = (s : List ℕ) → Bytes s → roster_answer s ≡ Accepted → rules_hold (fresh_table s) ≡ true

abbrev pub EmptyHolds : Type 0
EmptyHolds = rules_hold empty_table ≡ true
