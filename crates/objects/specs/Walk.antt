-- The walk over a message's objects, front to back, from place 8; the first faulty one decides (01, Every answer).
use Rattle.std.specs.Prelude.{ℕ, zero, suc, ◌+◌, List, [], ◌∷◌, None, Some, Result, Ok, Err, cond, length, eqb}
use Rattle.objects.specs.declared.fault.Fault.{Fault}
use Rattle.objects.specs.declared.object.Object.{Object}
use Rattle.objects.specs.declared.walk.Seen.{Seen}
use Rattle.objects.specs.declared.walk.Objects.{Objects}
use Rattle.objects.specs.declared.walk.Stopped.{Stopped}
use Rattle.objects.specs.Classes.{session, error_spec, sender_template, message_id, admin_status, session_attribute}
use Rattle.objects.specs.Item.{Item, item_at}

-- what is seen of a class after one more object
abbrev pub seen_with : ℕ → Object → Seen → Seen
seen_with class o before = cond (eqb o.class class) (record { at = o.at; times = before.times + 1 }) before

-- what the walk has seen after one more object
abbrev pub with_object : Object → Objects → Objects
with_object o v = record {
  session = seen_with session o v.session;
  error = seen_with error_spec o v.error;
  template = seen_with sender_template o v.template;
  identifier = seen_with message_id o v.identifier;
  status = seen_with admin_status o v.status;
  attribute = seen_with session_attribute o v.attribute;
  headers = v.headers + 1;
}

-- where the last object of a class stands, and how often one came, in a list of objects with the last one first
unfoldable pub seen : ℕ → List Object → Seen
seen class [] = record { at = 0; times = 0 }
seen class (o ∷ earlier) = seen_with class o (seen class earlier)

-- what the walk has seen once these objects are read
unfoldable pub objects_of : List Object → Objects
objects_of read = record {
  session = seen session read;
  error = seen error_spec read;
  template = seen sender_template read;
  identifier = seen message_id read;
  status = seen admin_status read;
  attribute = seen session_attribute read;
  headers = length read;
}

-- what a walk gives: what it has seen, or where it stopped
abbrev pub Walked : Type 0
Walked = Result Objects Stopped

-- a walk that stops, at a faulty object's place, with so many headers read, the faulty one's among them
abbrev pub stopped_at : Fault → ℕ → ℕ → Walked
stopped_at fault at headers = Err (record { fault = fault; offset = at; headers = headers })

-- how the walk goes on from a place, with the objects read before it: to its end, to a fault, or behind one more object
abbrev pub on_item : Item → ℕ → List Object → (ℕ → List Object → Walked) → Walked
on_item (Ok None) at read rest = Ok (objects_of read)
on_item (Err fault) at read rest = stopped_at fault at (length read + 1)
on_item (Ok (Some o)) at read rest = rest (at + o.len) (o ∷ read)

-- the walk from a place; a message has no more objects than bytes, so its length bounds the recursion
unfoldable pub walk_from : ℕ → List ℕ → ℕ → List Object → Walked
walk_from zero s at read = Ok (objects_of read)
walk_from (suc n) s at read = on_item (item_at s at) at read (walk_from n s)

unfoldable pub walk_of : List ℕ → Walked
walk_of s = walk_from (length s) s 8 []
