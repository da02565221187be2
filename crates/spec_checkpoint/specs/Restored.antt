-- What writing and reading a checkpoint are answered, and what they leave (02, A13).
use Rattle.std.specs.Prelude.{ℕ, ◌-◌, List, Bool, cond, not, ◌&&◌, ◌||◌, ltb, eqb, length}
use Rattle.numbers.specs.Buffer.{at_front}
use Rattle.table.specs.Table.{Table}
use Rattle.table.specs.Lists.{entries, held}
use Rattle.table.specs.Rules.{rules_hold}
use Rattle.table.specs.Roster.{roster_number, roster_answer, fresh_table, table_for, form_in}
use Rattle.spec_checkpoint.specs.Layout.{calls_in, connections_in, checkpoint_size, checkpoint_of}
use Rattle.spec_checkpoint.specs.Salvage.{salvaged}

-- ---- writing: 1 where the table breaks a rule, 73 where the buffer is too short, both leaving it untouched

pub record Written : Type 0 where
  pub answer : ℕ
  pub length : ℕ
  pub buffer : List ℕ

unfoldable pub written : Table → List ℕ → Written
written t buffer =
    cond (not (rules_hold t)) (record { answer = 1; length = 0; buffer = buffer })
    (cond (ltb (length buffer) (length (checkpoint_of t))) (record { answer = 73; length = 0; buffer = buffer })
    (record { answer = 0; length = length (checkpoint_of t); buffer = at_front (checkpoint_of t) buffer }))

-- ---- reading: the roster's answer first, then 70, 71 and, where nothing may be dropped, 72

pub record Restored : Type 0 where
  pub answer : ℕ
  pub table : Table
  -- how many records of calls, and of connections, are not in the table
  pub calls : ℕ
  pub connections : ℕ

-- 70: bytes too few or too many for the counts
unfoldable pub bad_size : List ℕ → Bool
bad_size s = ltb (length s) 4 || not (eqb (length s) (checkpoint_size (calls_in s) (connections_in s)))

-- a refused reading gives the roster's table as it is without a checkpoint, and drops nothing
abbrev pub unrestored : ℕ → Table → Restored
unrestored answer t = record { answer = answer; table = t; calls = 0; connections = 0 }

unfoldable pub from_checkpoint : List ℕ → List ℕ → Restored
from_checkpoint r s = record {
  answer = 0;
  table = salvaged (fresh_table r) s;
  calls = calls_in s - length (entries (salvaged (fresh_table r) s));
  connections = connections_in s - length (held (salvaged (fresh_table r) s));
}

abbrev pub drops_none : Restored → Bool
drops_none f = eqb f.calls 0 && eqb f.connections 0

unfoldable pub restored : Bool → List ℕ → List ℕ → Restored
restored salvage r s =
    cond (not (eqb (roster_number (roster_answer r)) 0)) (unrestored (roster_number (roster_answer r)) (table_for (roster_answer r) r))
    (cond (bad_size s) (unrestored 70 (fresh_table r))
    (cond (not (eqb (form_in s) 1)) (unrestored 71 (fresh_table r))
    (cond (salvage || drops_none (from_checkpoint r s)) (from_checkpoint r s)
    (unrestored 72 (fresh_table r)))))
