-- What reading a checkpoint gives.
use Rattle.std.specs.Prelude.{ℕ, ◌-◌, List, Result, Ok, Err, length}
use Rattle.table.specs.Table.{Table}
use Rattle.table.specs.Lists.{entries, held}
use Rattle.spec_checkpoint.specs.Layout.{calls_in, connections_in}
use Rattle.spec_checkpoint.specs.Salvage.{salvaged}
use Rattle.table.specs.Roster.{roster_number}
use Rattle.spec_checkpoint.specs.Restored.{Restored, unrestored}
use Rattle.checkpoint_read.specs.declared.Dropped.{Dropped}
use Rattle.checkpoint_read.specs.declared.ReadRefusal.{ReadRefusal}
use Rattle.checkpoint_read.specs.declared.ReadRefusal.TheVariants.{Roster, BadSize, OtherForm, Incomplete}

-- the number of a refusal (02, A13): the roster's first
abbrev pub read_number : ReadRefusal → ℕ
read_number (Roster fault) = roster_number (Err fault)
read_number BadSize = 70
read_number OtherForm = 71
read_number Incomplete = 72

-- an answer, with the table that is left
abbrev pub restored_as : Result Dropped ReadRefusal → Table → Restored
restored_as (Ok d) t = record { answer = 0; table = t; calls = d.calls; connections = d.connections }
restored_as (Err e) t = unrestored (read_number e) t

-- read into a fresh table, the tests of size and form passed
unfoldable pub read_into : Table → List ℕ → Restored
read_into fresh s = record {
  answer = 0;
  table = salvaged fresh s;
  calls = calls_in s - length (entries (salvaged fresh s));
  connections = connections_in s - length (held (salvaged fresh s));
}
