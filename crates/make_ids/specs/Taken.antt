-- Words of the contracts: the numbers that a call takes of a pair, and their marks: place 0 is none's.
use Rattle.std.specs.Prelude.{ℕ, ◌≤◌, ◌<◌, ◌≡◌, Bool, ◌&&◌, Option, eqb}
use Rattle.table.specs.Table.{Call}
use Rattle.table.specs.Lists.{ids_of}
use Rattle.table.specs.Rules.{same_bytes, same_short, same_long}
use Rattle.spec_calls.specs.Made.{made_name, made_ids}
use Rattle.make_ids.specs.Digits.{DigitsOf, is_it}
use Rattle.make_ids.specs.declared.digits.PairDigits.{PairDigits}
use Rattle.make_ids.specs.declared.short.Taken.{Taken}

-- the number below 4,096 that the call's name is made of, for the pair of these digits
abbrev pub NumberIn : PairDigits → Call → Option ℕ → Type 0
NumberIn p d r =
    (endpoint sender n : ℕ) → DigitsOf endpoint sender p → 1 ≤ n → n < 4096 → is_it n r ≡ same_bytes (made_name endpoint sender n) (ids_of d).long

-- the place of a number's mark, 0 for none and for the numbers past the last
pub record Marked (x : Option ℕ) (r : ℕ) : Type 0 where
  pub same : (n : ℕ) → 1 ≤ n → n < 402 → eqb n r ≡ is_it n x
  pub inside : r < 402

-- short ID and name of a used slot's call, each in the way of one number of the pair
pub record Takes (used : Bool) (endpoint sender : ℕ) (d : Call) (r : Taken) : Type 0 where
  pub short : (n : ℕ) → 1 ≤ n → n < 402 → eqb n r.short ≡ (used && same_short (made_ids endpoint sender n) (ids_of d))
  pub name : (n : ℕ) → 1 ≤ n → n < 402 → eqb n r.name ≡ (used && same_long (made_ids endpoint sender n) (ids_of d))
  pub short_inside : r.short < 402
  pub name_inside : r.name < 402
