-- How many slots the table has, and how many calls it holds (01, The roster; 02, A11): the one definition of each. The
-- code's constants and function are SLOTS and `total_for` of table/src/.
use Rattle.std.specs.Prelude.{ℕ, cond, ◌==◌}
use Rattle.table.specs.Table.{Table}

-- the slots that a table has, whatever form its roster is of: lists over places go over these
abbrev pub slots : ℕ
slots = 200

-- the total: a roster of form 2 has 200 calls, one of form 1 keeps its 64
abbrev pub total_for : ℕ → ℕ
total_for form = cond (form == 2) 200 64

abbrev pub total_of : Table → ℕ
total_of t = total_for t.form
