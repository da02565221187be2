-- What the walk promises of the objects it has seen: each lies within the message, with the length of its row (01,
-- Message layout).
use Rattle.std.specs.Prelude.{ℕ, ◌+◌, ◌≤◌, ◌<◌, ◌≡◌, List, length}
use Rattle.numbers.specs.BigEndian.{be16_at}
use Rattle.objects.specs.declared.walk.Seen.{Seen}
use Rattle.objects.specs.declared.walk.Objects.{Objects}
use Rattle.objects.specs.Forms.{name_length, rounded_up_to4}

-- an object that came has so many bytes within the message
abbrev pub Reaches : List ℕ → Seen → ℕ → Type 0
Reaches s seen len = 0 < seen.times → seen.at + len ≤ length s

-- a SESSION_ATTRIBUTE that came has its name, rounded up to 4, within the message
abbrev pub NameReaches : List ℕ → Seen → Type 0
NameReaches s seen = 0 < seen.times → (be16_at s seen.at ≡ 8 + rounded_up_to4 (name_length s seen.at)) × (seen.at + be16_at s seen.at ≤ length s)

pub record Placed (s : List ℕ) (v : Objects) : Type 0 where
  pub session : Reaches s v.session 16
  pub error : Reaches s v.error 12
  pub template : Reaches s v.template 12
  pub identifier : Reaches s v.identifier 12
  pub status : Reaches s v.status 8
  pub attribute : NameReaches s v.attribute
