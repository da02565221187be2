-- What stands at a place of a message: nothing more, an object, or a faulty one, with 7 tested before 8 before 9 (01,
-- Every answer).
use Rattle.std.specs.Prelude.{ℕ, ◌+◌, ◌-◌, ◌%◌, List, Bool, Option, None, Some, Result, Ok, Err, cond, not, ◌||◌, length, get_or, leb, ltb, eqb}
use Rattle.numbers.specs.BigEndian.{be16_at}
use Rattle.objects.specs.declared.fault.Fault.{Fault}
use Rattle.objects.specs.declared.fault.Fault.TheVariants.{ObjectLength, ObjectClass, ObjectForm}
use Rattle.objects.specs.declared.object.Object.{Object}
use Rattle.objects.specs.Classes.{refused_class}
use Rattle.objects.specs.Forms.{misformed}

-- the object header at a place: length 16 bits, class 8, C-Type 8
abbrev pub object_at : List ℕ → ℕ → Object
object_at s at = record { class = get_or s (at + 2) 0; ctype = get_or s (at + 3) 0; at = at; len = be16_at s at }

-- 7: no room for a header, or a length under 4, not a multiple of 4, or past the end
unfoldable pub bad_length : List ℕ → ℕ → Bool
bad_length s at =
    ltb (length s - at) 4
    || (ltb (be16_at s at) 4 || not (eqb (be16_at s at % 4) 0) || ltb (length s - at) (be16_at s at))

-- what stands at a place: an object or none, or a fault
abbrev pub Item : Type 0
Item = Result (Option Object) Fault

unfoldable pub item_at : List ℕ → ℕ → Item
item_at s at =
    cond (leb (length s) at) (Ok None)
    (cond (bad_length s at) (Err ObjectLength)
    (cond (refused_class (get_or s (at + 2) 0)) (Err ObjectClass)
    (cond (misformed s (object_at s at)) (Err ObjectForm)
    (Ok (Some (object_at s at))))))
