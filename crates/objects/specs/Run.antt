-- A run of objects that are passed over: each is like the one before them.
use Rattle.std.specs.Prelude.{ℕ, ◌+◌, ◌*◌, List, Bool, ◌&&◌, length, get_or, leb, eqb}
use Rattle.lists.specs.Below.{every_below}
use Rattle.numbers.specs.BigEndian.{be16_at}
use Rattle.objects.specs.declared.object.Object.{Object}

-- what stands at a place is like an object: within the message, as long, and of its class
unfoldable pub is_like : List ℕ → ℕ → Object → Bool
is_like s at o = leb (at + o.len) (length s) && eqb (be16_at s at) o.len && eqb (get_or s (at + 2) 0) o.class

-- so many objects from a place on are like one, each behind the other
abbrev pub all_like : List ℕ → ℕ → Object → ℕ → Bool
all_like s from o n = every_below (λ k. is_like s (from + k * o.len) o) n
