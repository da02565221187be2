-- The bits of ADMIN_STATUS (01, Message layout: the table).
use Rattle.std.specs.Prelude.{ℕ, ◌/◌, ◌%◌, Bool, eqb}

-- a bit, given by its value, is set
abbrev pub bit_set : ℕ → ℕ → Bool
bit_set bit bits = eqb (bits / bit % 2) 1

abbrev pub reflect_bit : ℕ
reflect_bit = 0x80000000

abbrev pub call_bit : ℕ
call_bit = 0x00000008

abbrev pub delete_bit : ℕ
delete_bit = 0x00000001
