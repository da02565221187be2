-- Which object a stopped walk names (02, A3): the first faulty one.
use Rattle.std.specs.Prelude.{ℕ, ◌+◌, ◌≤◌, ◌<◌, ◌≡◌, true, List, [], ◌∷◌, Some, Ok, Err, length}
use Rattle.objects.specs.declared.fault.Fault.{Fault}
use Rattle.objects.specs.declared.object.Object.{Object}
use Rattle.objects.specs.Faults.{fault_number, is_of_object}
use Rattle.objects.specs.Item.{item_at}
use Rattle.objects.specs.Walk.{stopped_at, walk_of}

-- good objects stand one behind the other from a place to an end
abbrev pub Way : List ℕ → ℕ → List Object → ℕ → Type 0
Way s at [] end = at ≡ end
Way s at (o ∷ rest) end = (item_at s at ≡ Ok (Some o)) × Way s (at + o.len) rest end

-- the fault is at this place, inside the message and behind its header; from place 8 to there all objects are good
pub record FirstFault (s : List ℕ) (fault : Fault) (at headers : ℕ) : Type 0 where
  pub behind_header : 8 ≤ at
  pub inside : at < length s
  pub faulty : item_at s at ≡ Err fault
  pub numbered : is_of_object (fault_number fault) ≡ true
  pub before : List Object
  pub good : Way s 8 before at
  pub counted : headers ≡ length before + 1

-- a walk that stops says where: a node that names the object behind the faulty one, or the last good one, is none
abbrev pub StoppedAtFirst : Type 0
StoppedAtFirst = (s : List ℕ) (fault : Fault) (at headers : ℕ) → walk_of s ≡ stopped_at fault at headers → FirstFault s fault at headers
