-- Which call records step 2 of salvage keeps, by two arrays that are filled once: 1 where a record is sound alone, and
-- how many connection records name it.
use Rattle.std.specs.Prelude.{ℕ, ◌<◌, ◌≡◌, List, Bool, not, ◌&&◌, ◌||◌, ltb, eqb, get_or}
use Rattle.lists.specs.Below.{every_below}
use Rattle.table.specs.Lists.{ids_of}
use Rattle.table.specs.Rules.{same_long}
use Rattle.spec_checkpoint.specs.Layout.{call_record}

-- an array has a function's values at its first n places
abbrev pub Filled : (ℕ → ℕ) → List ℕ → ℕ → Type 0
Filled f l n = (j : ℕ) → j < n → get_or l j 0 ≡ f j

-- record j is sound and goes before record i
abbrev pub is_ahead : List ℕ → List ℕ → ℕ → ℕ → Bool
is_ahead sound named i j =
    eqb (get_or sound j 0) 1 && (ltb (get_or named i 0) (get_or named j 0) || (eqb (get_or named i 0) (get_or named j 0) && ltb j i))

-- the same, and it has the pair and long ID of record i
unfoldable pub is_better : List ℕ → List ℕ → List ℕ → ℕ → ℕ → Bool
is_better s sound named i j = is_ahead sound named i j && same_long (ids_of (call_record s j).call) (ids_of (call_record s i).call)

unfoldable pub is_best : List ℕ → List ℕ → List ℕ → ℕ → ℕ → Bool
is_best s sound named n i = eqb (get_or sound i 0) 1 && every_below (λ j. not (is_better s sound named i j)) n
