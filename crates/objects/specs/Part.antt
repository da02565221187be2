-- The bytes of a part of a message.
use Rattle.std.specs.Prelude.{ℕ, ◌+◌, ◌≤◌, List, length, take, drop}
use Rattle.objects.specs.declared.fields.Part.{Part}

abbrev pub part_of : List ℕ → Part → List ℕ
part_of s p = take p.size (drop p.at s)

-- a part lies within a message
abbrev pub Within : List ℕ → Part → Type 0
Within s p = p.at + p.size ≤ length s
